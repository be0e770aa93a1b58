use Rattle.std.proofs.Common.{◌≡◌, ◌==◌, ◌≤◌, ℕ, ◌<◌, Bool, false, List, [], ◌++◌, length, take, refl, ap, sym, arith, rules, tests, ◌∙◌, length-append}
use Rattle.std.proofs.lemmas.List.{take_all}
use Rattle.std.specs.Rc.{rc_slice_items}
use Rattle.wasmi_types.specs.declared.value.ValType.{ValType}
use Rattle.wasmi_types.proofs.func_type.Entries.kept.Goals as goal

-- where entries stand after the inline ones, all inline places are taken, and there are more than 21 entries
whole : {n m : ℕ} (inline rest : List ValType) {xs : List ValType} {none : Bool} → take n inline ++ rest ≡ xs
    → (length inline ≡ 21) × (n ≤ 21) × (n < 21 → rest ≡ []) → m ≡ length rest → none ≡ (m == 0) → none ≡ false
    → (inline ++ rest ≡ xs) × (21 < length xs)
whole {n} {m} inline rest view inside len is some =
    let left : 0 < m = search (rules, tests, is, some) in
    let empty : n < 21 → length rest ≡ 0 = λ h. ap length (inside.2 h) in
    let all = ap (λ ys. ys ++ rest) (sym (take_all n inline (grind (arith, inside.0, len)))) ∙ view in
    (all, omega (arith, inside.0, len, left, ap length all, length-append inline rest))

pub returns-clause-kept : goal.returns-clause-kept
returns-clause-kept c =
    let all = whole _ _ c.self.view_is c.self.invariant c.self.inside.rest.ok.0 c.is_empty.ensures c.if-is_empty.false
    in
    let kept : rc_slice_items c.in_ok-from_vec.field-0 ≡ c.args.self.now =
    c.in_ok-from_vec.ensures ∙ c.in_ok-extend_from_slice.ensures.items
    ∙ (λ i. c.in_ok-items.ensures.items i ++ c.as_slice.ensures.value i) ∙ all.0 in
    rw kept (take_all _ _ (omega arith), omega arith, (all.1, refl))

pub returns-in_err-items-clause-refused : goal.returns-in_err-items-clause-refused
returns-in_err-items-clause-refused c _ =
    (whole _ _ c.self.view_is c.self.invariant c.self.inside.rest.ok.0 c.is_empty.ensures c.if-is_empty.false).1

pub returns-in_err-extend_from_slice-clause-refused : goal.returns-in_err-extend_from_slice-clause-refused
returns-in_err-extend_from_slice-clause-refused c _ =
    (whole _ _ c.self.view_is c.self.invariant c.self.inside.rest.ok.0 c.is_empty.ensures c.if-is_empty.false).1

pub returns-in_err-from_vec-clause-refused : goal.returns-in_err-from_vec-clause-refused
returns-in_err-from_vec-clause-refused c _ =
    (whole _ _ c.self.view_is c.self.invariant c.self.inside.rest.ok.0 c.is_empty.ensures c.if-is_empty.false).1
