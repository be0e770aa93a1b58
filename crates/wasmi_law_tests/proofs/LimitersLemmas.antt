-- An exchange with a recorder, a limiter of one's own, leaves its trace.
use Rattle.std.proofs.Common.{[], ◌∙◌, ℕ, Some, ap, inl, inr, Ok, Err, List, None, true, false, ◌∷◌, ◌++◌}
use Rattle.wasmi_law_tests.proofs.Common.{append_assoc, optional_rules, Question, kind_of, same_Some}
use Rattle.wasmi_meter.specs.declared.limiter.Kind.{Kind}
use Rattle.wasmi_law_tests.specs.Limiters.{event_of, recorder_rules, OneGrows, LeavesTrace}
use Rattle.wasmi_machine.specs.Exchange.{Exchange, Nothing, Denial, Permission, Notice, Place, Nowhere, New, At, Passes, GrowsAsAsked, GrowsBy}
use Rattle.wasmi_law_tests.specs.declared.recorder.Recorder.{Recorder}
use Rattle.wasmi_law_tests.specs.declared.recorder.Event.TheVariants as event

-- where a place has grown as was asked, one size has become the one that was asked for
one_grows : (place : Place) (q : Question) (sizes sizes' : List ℕ) → GrowsAsAsked place q sizes sizes'
    → OneGrows q.current q.desired sizes sizes'
one_grows Nowhere q sizes sizes' grows = absurd grows
one_grows New q sizes sizes' grows = inl grows
one_grows (At k) q sizes sizes' (up, found, put) = inr (k, found, put)

module _ (l l' : Recorder) (sizes sizes' : Kind → List ℕ) (place : Place) where
  -- an exchange with a recorder leaves its trace
  pub traced : (exchange : Exchange) → Passes (optional_rules recorder_rules) (Some l) exchange (Some l')
      → GrowsBy place exchange sizes sizes' → LeavesTrace l.events.items sizes l'.events.items sizes'
  traced Nothing same still = inl (ap (λ (x : Recorder). x.events.items) (same_Some l' l same), still)
  traced (Denial q (Ok true)) (denial, asked) still = absurd denial
  traced (Denial q (Ok false)) (denial, asked) still = inl (asked, still)
  traced (Denial q (Err error)) (denial, asked) still = absurd asked
  traced (Permission q) asked (grows, others) =
      inr (inl (q, asked.0, one_grows place q (sizes q.kind) (sizes' q.kind) grows))
  traced (Notice q failure notice_answer) (kind, Some p, asked, noticed) still =
      let heard = noticed asked.1 in
      inr (inr (
        q,
        heard.1 ∙ ap (λ es. es ++ event.Failed (kind_of failure) ∷ []) asked.0
            ∙ append_assoc l.events.items (event_of q ∷ []) (event.Failed (kind_of failure) ∷ [])
            ∙ ap (λ k. l.events.items ++ event_of q ∷ event.Failed k ∷ []) kind,
        still,
      ))
  traced (Notice q failure notice_answer) (kind, None, asked, noticed) still = absurd asked
