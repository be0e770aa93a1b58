-- Each way in which an attempt ends, by what was tested on the way, and what is charged for it.
use Rattle.std.proofs.Common.{◌≡◌, ℕ, ◌-◌, true, false, Option, Some, None, Ok, refl, ap, arith}
use Rattle.std.specs.Option.{option_map}
use Rattle.wasmi_meter.specs.Limiter.{Answer, NoticeAnswer, IsDenial, Rules}
use Rattle.wasmi_meter.specs.Meter.{Meter, meter_after}
use Rattle.wasmi_meter.specs.Attempt.{MeteredValue, Request, Unasked, Denied, Met, Failed, Attempt, optional_due, covers}

-- a charge of nothing leaves the meter
pub meter_after_nothing : (m : Option Meter) → m ≡ option_map (λ m. meter_after m 0) m
meter_after_nothing None = refl
meter_after_nothing (Some m) = ap (λ (left : Option ℕ). Some (record m { left = left })) (unchanged m.left)
  where
    unchanged : (left : Option ℕ) → left ≡ option_map (λ n. n - 0) left
    unchanged None = refl
    unchanged (Some n) = ap Some (omega arith)

-- no early cause stands against a request, and the limiter permits it
pub record IsPermitted {V E S : Type 0} (rules : Rules S) (e : Request V E) (l permitted : S) : Type 0 where
  pub early : e.early ≡ None
  pub asks : rules.asked l e.question (Ok true) permitted

-- a request is permitted, and no late cause stands against it: the charge is next
pub record ReachesCharge {V E S : Type 0} (rules : Rules S) (e : Request V E) (l permitted : S) : Type 0 where
  pub permits : IsPermitted rules e l permitted
  pub late : e.late ≡ None

module _ {V E S : Type 0} (rules : Rules S) (e : Request V E) (s : MeteredValue V S) where
  -- with an early cause nothing is asked, nothing is charged, and all is the same
  pub attempt_unasked : (cause : E) → e.early ≡ Some cause → Attempt rules e s (Unasked cause) 0 s
  attempt_unasked cause early =
      record { may_end = early; follows = refl; charged = refl; meter = meter_after_nothing s.meter; value = refl }

  -- a denial: nothing is charged, and the limiter alone is another
  pub attempt_denied : e.early ≡ None → (answer : Answer) (l : S) → IsDenial answer
      → rules.asked s.limiter e.question answer l → Attempt rules e s (Denied answer) 0 (record s { limiter = l })
  attempt_denied early answer l denial asks = record
      { may_end = (early, denial); follows = asks; charged = refl; meter = meter_after_nothing _; value = refl }

  module _ (p : S) where
    -- the cause that stands between the permission and the charge
    pub attempt_late : IsPermitted rules e s.limiter p → (cause : E) (notice_answer : NoticeAnswer) (l : S)
        → e.late ≡ Some cause → rules.noticed p (e.notice cause) notice_answer l
        → Attempt rules e s (Failed cause notice_answer) 0 (record s { limiter = l })
    attempt_late permits cause notice_answer l late notices = record {
      may_end = (permits.early, rw late refl);
      follows = (p, permits.asks, notices);
      charged = rw late refl;
      meter = meter_after_nothing s.meter;
      value = refl;
    }

    module _ (reaches : ReachesCharge rules e s.limiter p) where
      -- too little is left: nothing is charged, and the limiter is told of it
      pub attempt_unpaid : (notice_answer : NoticeAnswer) (l : S)
          → covers s.meter (optional_due s.meter e.price) ≡ false
          → rules.noticed p (e.notice (e.unpaid (optional_due s.meter e.price))) notice_answer l
          → Attempt rules e s (Failed (e.unpaid (optional_due s.meter e.price)) notice_answer) 0
          (record s { limiter = l })
      attempt_unpaid notice_answer l short notices = record {
        may_end = (reaches.permits.early, rw (reaches.late, short) refl);
        follows = (p, reaches.permits.asks, notices);
        charged = rw (reaches.late, short) refl;
        meter = meter_after_nothing s.meter;
        value = refl;
      }

      module _ (enough : covers s.meter (optional_due s.meter e.price) ≡ true) where
        -- what is grown into refuses: what is due is charged, and the limiter is told of it
        pub attempt_refused : (cause : E) (notice_answer : NoticeAnswer) (l : S) → e.refuses cause
            → rules.noticed p (e.notice cause) notice_answer l
            → Attempt rules e s (Failed cause notice_answer) (optional_due s.meter e.price)
            (record s { meter = option_map (λ m. meter_after m (optional_due s.meter e.price)) s.meter; limiter = l })
        attempt_refused cause notice_answer l refuses notices = record {
          may_end = (reaches.permits.early, rw (reaches.late, enough) refuses);
          follows = (p, reaches.permits.asks, notices);
          charged = rw (reaches.late, enough) refl;
          meter = refl;
          value = refl;
        }

        -- nothing stands against it: the value has grown, and what is due is charged
        pub attempt_met : Attempt rules e s Met (optional_due s.meter e.price)
            (record {
              value = e.grown;
              meter = option_map (λ m. meter_after m (optional_due s.meter e.price)) s.meter;
              limiter = p;
            })
        attempt_met = record {
          may_end = (reaches.permits.early, reaches.late, enough);
          follows = reaches.permits.asks;
          charged = refl;
          meter = refl;
          value = refl;
        }
