-- The rules of a recorder, a limiter that keeps what it permitted and each failure in its trace, and how the trace and
-- the sizes of a machine have grown by one call.
use Rattle.std.specs.Prelude.{◌≡◌, ℕ, Ok, Err, length, ◌<◌, ◌⊎◌, ◌++◌, true, false, Some, List, [], ◌∷◌, slice_get, slice_set, vec_capacity}
use Rattle.wasmi_meter.specs.declared.limiter.Kind.{Kind}
use Rattle.wasmi_meter.specs.Limiter.{Question, Answer, kind_of, Rules}
use Rattle.wasmi_machine.specs.Exchange.{NothingGrows}
use Rattle.wasmi_law_tests.specs.declared.{recorder.Event.Event, recorder.Recorder.Recorder}
use Rattle.wasmi_law_tests.specs.declared.recorder.Event.TheVariants.{Permitted, Failed}

-- the event that a permitted question leaves in a trace
abbrev pub event_of : Question → Event
event_of q = Permitted q.kind q.current q.desired

-- a recorder answers a question: a permission is kept in the trace, which then has room for one failure; without room
-- nothing is permitted, and no error is given
abbrev pub AnswersQuestion : Recorder → Question → Answer → Recorder → Type 0
AnswersQuestion l q (Ok true) l' =
    (l'.events.items ≡ l.events.items ++ event_of q ∷ []) × (length l'.events.items < vec_capacity l'.events)
AnswersQuestion l q (Ok false) l' = l'.events.items ≡ l.events.items
AnswersQuestion l q (Err error) l' = ⊥

-- the rules of a recorder: a failure is kept where there is room for it
abbrev pub recorder_rules : Rules Recorder
recorder_rules = record {
  asked = AnswersQuestion;
  noticed = λ l failure notice_answer l'. length l.events.items < vec_capacity l.events
      → (notice_answer ≡ Ok tt) × (l'.events.items ≡ l.events.items ++ Failed (kind_of failure) ∷ []);
}

-- one size of a kind has become another: a new one, or one that was there
abbrev pub OneGrows : ℕ → ℕ → List ℕ → List ℕ → Type 0
OneGrows current desired sizes sizes' = ((current ≡ 0) × (sizes' ≡ sizes ++ desired ∷ []))
    ⊎ ((k : ℕ) × (slice_get sizes k ≡ Some current) × (sizes' ≡ slice_set sizes k desired))

-- how the trace has grown by one call, and the sizes with it
abbrev pub LeavesTrace : List Event → (Kind → List ℕ) → List Event → (Kind → List ℕ) → Type 0
LeavesTrace events sizes events' sizes' = ((events' ≡ events) × NothingGrows sizes sizes')
    ⊎ ((q : Question) × (events' ≡ events ++ event_of q ∷ [])
    × OneGrows q.current q.desired (sizes q.kind) (sizes' q.kind))
    ⊎ ((q : Question) × (events' ≡ events ++ event_of q ∷ Failed q.kind ∷ []) × NothingGrows sizes sizes')
