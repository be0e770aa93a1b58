use Rattle.std.proofs.Common.{ℕ, ◌+◌, ◌<◌, ◌≤◌, ◌≡◌, ◌∙◌, ◌++◌, List, [], Some, None, IfSome, length, length-append, length-take-le, take, append-nil, rules, sym, ap, arith}
use Rattle.std.specs.declared.option.Option.{Option}
use Rattle.wasmi_script.proofs.Common.{Consumes, IsAtEnd, Consumes-trans, script_limit}
use Rattle.wasmi_script.proofs.replaying.read.Goals as goal

-- a turn that gives nothing is the end
all_read : (a b c : Option (List ℕ)) (so_far buffer : List ℕ) (n : ℕ) → Consumes a b so_far
    → Consumes b c (take n buffer) → n ≡ 0 → IsAtEnd c → IfSome a (λ bytes. so_far ≡ bytes)
all_read None b c so_far buffer n taken turn none ended = tt
all_read (Some xs) None c so_far buffer n taken turn none ended = absurd taken
all_read (Some xs) (Some ys) None so_far buffer n taken turn none ended = absurd turn
all_read (Some xs) (Some ys) (Some zs) so_far buffer n taken turn none ended =
    let nothing : take n buffer ≡ [] = ap (λ k. take k buffer) none in
    let left : ys ≡ [] = turn ∙ ap (λ t. t ++ zs) nothing ∙ ended in
    sym (taken ∙ ap (λ t. so_far ++ t) left ∙ append-nil so_far)

-- a turn that gives more than there is room for
too_many : (a b c : Option (List ℕ)) (so_far buffer : List ℕ) (n : ℕ) → Consumes a b so_far
    → Consumes b c (take n buffer) → n ≤ length buffer
    → script_limit < length so_far + n → IfSome a (λ bytes. script_limit < length bytes)
too_many None b c so_far buffer n taken turn fits more = tt
too_many (Some xs) None c so_far buffer n taken turn fits more = absurd taken
too_many (Some xs) (Some ys) None so_far buffer n taken turn fits more = absurd turn
too_many (Some xs) (Some ys) (Some zs) so_far buffer n taken turn fits more =
    omega (
      arith,
      more,
      ap length taken,
      length-append so_far ys,
      ap length turn,
      length-append (take n buffer) zs,
      length-take-le n buffer fits,
    )

pub returns-then-count-eq0-clause-whole : goal.returns-then-count-eq0-clause-whole
returns-then-count-eq0-clause-whole g c =
    all_read _ _ (g.R.Read.remaining c.turn.new.self.reader.now) _ _ _ c.loop-turn.invariant.taken
    c.in-Ok.ensures.bytes.0 (search rules) (c.in-Ok.ensures.bytes.1 (search rules) (search rules))

pub returns-then-len-count-clause-refused : goal.returns-then-len-count-clause-refused
returns-then-len-count-clause-refused g c =
    too_many _ _ (g.R.Read.remaining c.turn.new.self.reader.now) _ _ c.in-Ok.count c.loop-turn.invariant.taken
    c.in-Ok.ensures.bytes.0 c.in-Ok.ensures.bound.0
    (omega (arith, c.if-len-count.true, c.len.ensures, c.loop-turn.script.ok.0))

pub loop-turn-preserved : goal.loop-turn-preserved
loop-turn-preserved g c = record {
  reader = search rules;
  counted = search rules;
  turned = search rules;
  bounded = search rules;
  taken = rw c.in_ok-extend_from_slice.ensures.items
      (Consumes-trans _ _ _ _ _ c.loop-turn.invariant.taken c.in-Ok.ensures.bytes.0);
}
