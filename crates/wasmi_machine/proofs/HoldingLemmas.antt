-- What a limiter keeps in a run: the totals that it holds, the caps of a quota, and the states in which it does what
-- another limiter may do (`Carries`), also where it may be absent.
use Rattle.std.proofs.Common.{◌≡◌, ◌≢◌, ℕ, ◌+◌, ◌-◌, Option, Some, None, Result, Ok, Err, true, List, [], ◌∷◌, sum, refl, sym, ap, ◌∙◌, arith, IfOk, OnErr}
use Rattle.wasmi_machine.proofs.Common.{same_Some, Kind, Bytes, Elements, HoldsTheSame, Reserves, GivesBack, with_more, SameCaps, IsWithinCaps, Capped, capped_rules, capped_quota, quota_rules, Question, Answer, Failure, kind_of, NoticeAnswer, Rules, AskedIf, NoticedIf, optional_rules, Call, Reply, State, World, Turn, world, sizes, HoldsTotals, Run, IsRunOf, Step, Exchange, Nothing, Denial, Permission, Notice, Place, Nowhere, New, At, place_of, Passes, NothingGrows, GrowsAsAsked, GrowsBy, option_and_then}
use Rattle.wasmi_meter.specs.declared.{quota.Holdings.Holdings, quota.Quota.Quota}
use Rattle.wasmi_machine.proofs.TotalLemmas.{sum_set, sum_push}
use Rattle.wasmi_machine.proofs.ExchangeLemmas.{growths_are_permitted}
use Rattle.wasmi_meter.specs.Capped.{IsWithin}
use Rattle.wasmi_meter.proofs.CappedLemmas.{denial_keeps, given_back, KeepsCaps, caps_kept, others_kept, asked_is_within, noticed_is_within, quota_keeps}

-- the sum of the sizes that a limiter holds, after one has grown as a question asks
grown_sum : (place : Place) (q : Question) (xs ys : List ℕ) → GrowsAsAsked place q xs ys
    → sum ys ≡ sum xs + (q.desired - q.current)
grown_sum Nowhere q xs ys grows = absurd grows
grown_sum New q xs ys (fresh, added) = ap sum added ∙ sum_push xs q.desired ∙ omega (arith, fresh)
grown_sum (At k) q xs ys (up, found, put) = ap sum put ∙ omega (arith, up, sum_set xs k q.current q.desired found)

module _ (s s' : State) where
  -- the totals are held where nothing grows
  still_held : (h h' : Holdings) → HoldsTotals h s → HoldsTheSame h h' → NothingGrows (sizes s) (sizes s')
      → HoldsTotals h' s'
  still_held h h' held same still = record {
    bytes = rw (still Bytes) (same.bytes ∙ held.bytes);
    elements = rw (still Elements) (same.elements ∙ held.elements);
  }

  -- the totals are held after a growth
  more_held : (kind : Kind) (n : ℕ) (h h' : Holdings) → HoldsTotals h s → h' ≡ with_more h kind n
      → sum (sizes s' kind) ≡ sum (sizes s kind) + n
      → ((other : Kind) → other ≢ kind → sizes s' other ≡ sizes s other) → HoldsTotals h' s'
  more_held Bytes n h h' held more grown others = record {
    bytes = rw (more, held.bytes) (sym grown);
    elements = rw (more, others Elements (λ e. cc)) held.elements;
  }
  more_held Elements n h h' held more grown others = record {
    bytes = rw (more, others Bytes (λ e. cc)) held.bytes;
    elements = rw (more, held.elements) (sym grown);
  }

-- what the questions to a limiter add to what it holds, and what notices take back
pub record KeepsHoldings {L : Type 0} (rules : Rules L) (holdings : L → Holdings) : Type 0 where
  pub reserves : (l l' : L) (q : Question) (answer : Answer) → rules.asked l q answer l'
      → Reserves q answer (holdings l) (holdings l')
  pub gives_back : (l l' : L) (failure : Failure) (notice_answer : NoticeAnswer)
      → rules.noticed l failure notice_answer l' → GivesBack (kind_of failure) (holdings l) (holdings l')

module _ {L : Type 0} (rules : Rules L) (holdings : L → Holdings) (keeps : KeepsHoldings rules holdings) where
  -- a limiter is there, and holds the totals
  abbrev Holds : Option L → State → Type 0
  Holds limiter s = (l : L) × (limiter ≡ Some l) × HoldsTotals (holdings l) s

  -- an exchange keeps the totals held
  exchange_holds : (s s' : State) (l : L) (limiter : Option L) (place : Place) (exchange : Exchange)
      → HoldsTotals (holdings l) s → Passes (optional_rules rules) (Some l) exchange limiter
      → GrowsBy place exchange (sizes s) (sizes s') → Holds limiter s'
  exchange_holds s s' l limiter place Nothing held passes grows =
      (l, passes, still_held s s' (holdings l) (holdings l) held (record { bytes = refl; elements = refl }) grows)
  exchange_holds s s' l (Some l') place (Denial q answer) held (denial, asks) grows =
      (l', refl, still_held s s' _ _ held (denial_keeps q answer _ _ denial (keeps.reserves l l' q answer asks)) grows)
  exchange_holds s s' l None place (Denial q answer) held (denial, asks) grows = absurd asks
  exchange_holds s s' l (Some l') place (Permission q) held asks (grows, others) =
      let kept = keeps.reserves l l' q (Ok true) asks in
      let grown = grown_sum place q (sizes s q.kind) (sizes s' q.kind) grows in
      (l', refl, more_held s s' q.kind (q.desired - q.current) _ _ held kept grown others)
  exchange_holds s s' l None place (Permission q) held asks grows = absurd asks
  exchange_holds s s' l (Some l') place (Notice q failure notice_answer) held (kind, Some p, asks, notices) grows =
      let kept = keeps.reserves l p q (Ok true) asks in
      let back = rw kind at (keeps.gives_back p l' failure notice_answer notices) in
      (l', refl, still_held s s' _ _ held (given_back q.kind (q.desired - q.current) _ _ _ kept back) grows)
  exchange_holds s s' l None place (Notice q failure notice_answer) held (kind, Some p, asks, notices) grows =
      absurd notices
  exchange_holds s s' l limiter place (Notice q failure notice_answer) held (kind, None, asks, notices) grows =
      absurd asks

  -- a run keeps them held
  pub totals_are_held : (s : State) (l : L) → HoldsTotals (holdings l) s → (turns : List Turn) (w' : World (Option L))
      → Run (optional_rules rules) (world s (Some l)) turns w' → Holds w'.limiter w'.state
  totals_are_held s l held [] w' ran = rw ran (l, refl, held)
  totals_are_held s l held (turn ∷ turns) w' (v, step, ran) =
      let passed = growths_are_permitted (optional_rules rules) (world s (Some l)) turn v step in
      let next =
      exchange_holds s v.state l v.limiter (place_of turn.call) passed.exchange held passed.passes passed.grows in
      totals_are_held v.state next.0 next.2 turns w' (rw next.1 at ran)

  -- a run by the answers that a caller sees keeps the totals held
  pub run_holds : {R E : Type 0} (items : R → List Reply) (w w' : World L) (calls : List Call)
      → HoldsTotals (holdings w.limiter) w.state → (result : Result R E)
      → IfOk result (λ replies. IsRunOf (optional_rules rules) calls (world w.state (Some w.limiter)) (items replies)
      (world w'.state (Some w'.limiter)))
      → OnErr result ((w'.state ≡ w.state) × (w'.limiter ≡ w.limiter)) → HoldsTotals (holdings w'.limiter) w'.state
  run_holds items w w' calls held (Ok replies) ran same =
      let after = totals_are_held w.state w.limiter held ran.0 (world w'.state (Some w'.limiter)) ran.3 in
      rw (same_Some w'.limiter after.0 after.1) after.2
  run_holds items w w' calls held (Err error) ran same = rw (same.0, same.1) held

-- a limiter in these states stays in them, and there does what another one may do in the image of its state
pub record Carries {S T : Type 0} (within : S → Type 0) (image : S → T) (rules : Rules S) (rules' : Rules T)
    : Type 0 where
  pub asked : (l : S) (question : Question) (answer : Answer) (l' : S) → within l → rules.asked l question answer l'
      → within l' × rules'.asked (image l) question answer (image l')
  pub noticed : (l : S) (failure : Failure) (notice_answer : NoticeAnswer) (l' : S) → within l
      → rules.noticed l failure notice_answer l' → within l' × rules'.noticed (image l) failure notice_answer (image l')

module _ {S T : Type 0} {within : S → Type 0} {image : S → T} {rules : Rules S} {rules' : Rules T}
    (carries : Carries within image rules rules') where
  -- an exchange leaves the limiter in these states
  exchange_stays : (l l' : S) (exchange : Exchange) → within l → Passes rules l exchange l' → within l'
  exchange_stays l l' Nothing here passes = rw passes here
  exchange_stays l l' (Denial question answer) here (denial, asks) = (carries.asked l question answer l' here asks).0
  exchange_stays l l' (Permission question) here asks = (carries.asked l question (Ok true) l' here asks).0
  exchange_stays l l' (Notice question failure notice_answer) here (kind, permitted, asks, notices) =
      let asked = carries.asked l question (Ok true) permitted here asks in
      (carries.noticed permitted failure notice_answer l' asked.0 notices).0

  -- a step leaves the limiter in these states
  pub step_stays : (w : World S) (turn : Turn) (w' : World S) → within w.limiter → Step rules w turn w'
      → within w'.limiter
  step_stays w turn w' here step =
      let passed = growths_are_permitted rules w turn w' step in
      exchange_stays w.limiter w'.limiter passed.exchange here passed.passes

  -- a run leaves the limiter in these states
  pub run_stays : (w : World S) (turns : List Turn) (w' : World S) → within w.limiter → Run rules w turns w'
      → within w'.limiter
  run_stays w [] w' here ran = rw ran here
  run_stays w (turn ∷ turns) w' here (v, step, ran) = run_stays v turns w' (step_stays w turn v here step) ran

-- what leads a limiter that may be absent from one state to another does something else too, where it does where there
-- is one, and where there is none, and where it neither comes nor goes
pub if_there : {L : Type 0} (Leads Leads' : Option L → Option L → Type 0)
    → ((l l' : L) → Leads (Some l) (Some l') → Leads' (Some l) (Some l')) → (Leads None None → Leads' None None)
    → ((l : L) → (Leads (Some l) None → ⊥) × (Leads None (Some l) → ⊥)) → (l l' : Option L) → Leads l l'
    → Leads' l l'
if_there Leads Leads' some none never (Some l) (Some l') leads = some l l' leads
if_there Leads Leads' some none never (Some l) None leads = absurd ((never l).0 leads)
if_there Leads Leads' some none never None (Some l') leads = absurd ((never l').1 leads)
if_there Leads Leads' some none never None None leads = none leads

-- a limiter is there, in one of these states
abbrev pub IsThere : {L : Type 0} → (L → Type 0) → Option L → Type 0
IsThere Kept (Some l) = Kept l
IsThere Kept None = ⊥

-- the limiter that is there, where one in these states is
there : {L : Type 0} (Kept : L → Type 0) (limiter : Option L) → IsThere Kept limiter
    → (l : L) × (limiter ≡ Some l) × Kept l
there Kept (Some l) kept = (l, refl, kept)
there Kept None kept = absurd kept

-- a limiter that may be absent does what another one, or none, may do in the image of its state, where it is there
pub optional_carries : {L T : Type 0} {Kept : L → Type 0} {image : L → Option T} {rules : Rules L} {rules' : Rules T}
    → Carries Kept image rules (optional_rules rules')
    → Carries (IsThere Kept) (option_and_then image) (optional_rules rules) (optional_rules rules')
optional_carries {Kept = Kept} {image = image} {rules = rules} {rules' = rules'} carries = record {
  asked = λ l question answer l' here asks. if_there (λ l l'. AskedIf rules l question answer l')
      (λ l l'. IsThere Kept l → IsThere Kept l'
      × AskedIf rules' (option_and_then image l) question answer (option_and_then image l'))
      (λ l l' asks here. carries.asked l question answer l' here asks) (λ permits none. absurd none)
      (λ l. (λ h. h, λ h. h)) l l' asks here;
  noticed = λ l failure answer l' here notices. if_there (λ l l'. NoticedIf rules l failure answer l')
      (λ l l'. IsThere Kept l → IsThere Kept l'
      × NoticedIf rules' (option_and_then image l) failure answer (option_and_then image l'))
      (λ l l' notices here. carries.noticed l failure answer l' here notices) (λ accepts none. absurd none)
      (λ l. (λ h. h, λ h. h)) l l' notices here;
}

-- a limiter with caps that became of another one: within its caps, which are the other's, beside as much of others
pub record IsLater {L : Type 0} (c : Capped L) (first later : L) : Type 0 where
  pub within : IsWithin c later
  pub caps : (kind : Kind) → c.cap later kind ≡ c.cap first kind
  pub others : (kind : Kind) → c.others later kind ≡ c.others first kind

module _ {L : Type 0} (c : Capped L) (keeps : KeepsCaps c) (first : L) where
  -- what a run may make of a limiter: one that is within its caps and is another one but for its holdings
  still_later : (l l' : L) → IsLater c first l → l' ≡ c.with_holdings l (c.holdings l') → IsWithin c l'
      → IsLater c first l'
  still_later l l' later rest within = record {
    within = within;
    caps = λ kind. caps_kept c keeps l l' rest kind ∙ later.caps kind;
    others = λ kind. others_kept c keeps l l' rest kind ∙ later.others kind;
  }

  -- a run keeps a limiter within its caps
  pub run_is_later : IsWithin c first → (s : State) (turns : List Turn) (w' : World (Option L))
      → Run (optional_rules (capped_rules c)) (world s (Some first)) turns w' → IsThere (IsLater c first) w'.limiter
  run_is_later within s turns w' ran =
      let carries : Carries (IsLater c first) Some (capped_rules c) (optional_rules (capped_rules c)) = record {
        asked = λ l question answer l' later (taken, answered, more). (
          still_later l l' later more.rest
              (asked_is_within c keeps l l' later.within question answer (taken, answered, more)),
          (taken, answered, more),
        );
        noticed = λ l failure answer l' later noticed. (
          still_later l l' later noticed.rest (noticed_is_within c keeps l l' later.within failure answer noticed),
          noticed,
        );
      } in
      run_stays (optional_carries {rules' = capped_rules c} carries) (world s (Some first)) turns w'
      (record { within = within; caps = λ kind. refl; others = λ kind. refl }) ran

-- a run keeps a quota within its caps
pub quota_stays_within : (s : State) (l : Quota) → IsWithinCaps l → (turns : List Turn) (w' : World _)
    → Run (optional_rules quota_rules) (world s (Some l)) turns w'
    → (l' : Quota) × (w'.limiter ≡ Some l') × IsWithinCaps l' × SameCaps l l'
quota_stays_within s l within turns w' ran =
    let kept = there (IsLater capped_quota l) w'.limiter
    (run_is_later capped_quota quota_keeps l within s turns w' ran) in
    (kept.0, kept.1, kept.2.within, kept.2.caps)
