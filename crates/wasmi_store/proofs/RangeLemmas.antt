-- A copy over another range of the same list, a part at a time: of items that move down, and of items that move up.
use Rattle.std.proofs.Common.{rules, true, Some, ◌≡◌, ℕ, ◌+◌, ◌-◌, ◌≤◌, List, ◌++◌, length, take, drop, sym, ap, ◌∙◌, arith, append_assoc, length-drop}
use lib.Seq.{paste, take-add, take-paste, drop-paste}
use Rattle.wasmi_store.proofs.Common.{cond-true, nat_le, nat_tests, take-take, take_at, drop_at, drop-drop, drop-take}
use Rattle.std.proofs.lemmas.List.{length-take-le, take-append-drop}
use Rattle.wasmi_types.specs.Access.{overwrite}
use Rattle.wasmi_store.specs.Write.{copied}

-- a part copied behind what was copied downwards
pub copied_down : {A : Type 0} (xs ys : List A) (dst src done n : ℕ) → dst ≤ src → src + done + n ≤ length xs
    → ys ≡ paste xs dst (drop src xs) done
    → paste ys (dst + done) (drop (src + done) ys) n ≡ paste xs dst (drop src xs) (done + n)
copied_down {A = A} xs ys dst src done n down fits is =
    let long = length-drop src xs in
    let s : List A = drop src xs in
    let head : take (dst + done) ys ≡ take dst xs ++ take done s =
    ap (take (dst + done)) is ∙ take-paste xs dst s done (omega arith) (omega arith) in
    let rest : drop (dst + done) ys ≡ drop (dst + done) xs =
    ap (drop (dst + done)) is ∙ drop-paste xs dst s done (omega arith) (omega arith) in
    let gap : dst + done + (src - dst) ≡ src + done = omega arith in
    let ahead : drop (src + done) ys ≡ drop done s =
    rw (drop-drop done src xs, ← gap, ← drop-drop (src - dst) (dst + done) ys, rest)
    (drop-drop (src - dst) (dst + done) xs) in
    let sum : dst + done + n ≡ dst + (done + n) = omega arith in
    let tail : drop (dst + done + n) ys ≡ drop (dst + (done + n)) xs =
    rw (← drop-drop n (dst + done) ys, rest, drop-drop n (dst + done) xs, sum) in
    rw (head, ahead, tail, take-add done n s) (simp append_assoc)

-- a part copied before what was copied upwards
pub copied_up : {A : Type 0} (xs ys : List A) (dst src len left n : ℕ) → src ≤ dst → n ≤ left → left ≤ len
    → dst + len ≤ length xs → ys ≡ paste xs (dst + left) (drop (src + left) xs) (len - left)
    → paste ys (dst + (left - n)) (drop (src + (left - n)) ys) n
    ≡ paste xs (dst + (left - n)) (drop (src + (left - n)) xs) (len - (left - n))
copied_up {A = A} xs ys dst src len left n up some within fits is =
    let less : ℕ = left - n in
    let rest : ℕ = len - left in
    let a : ℕ = dst + left in
    let s : List A = drop (src + left) xs in
    let t : List A = drop (src + less) xs in
    let b : List A = take (dst + less) xs in
    let z : List A = drop (a + rest) xs in
    let fitting = length-take-le a xs (omega arith) in
    let parts : ys ≡ take a xs ++ (take rest s ++ z) = is ∙ append_assoc (take a xs) (take rest s) z in
    let same : take a ys ≡ take a xs = ap (take a) parts ∙ take_at (take a xs) (take rest s ++ z) a fitting in
    let front : (k : ℕ) → k ≤ a → take k ys ≡ take k xs =
    λ k within. sym (take-take k a ys within) ∙ ap (take k) same ∙ take-take k a xs within in
    let after : dst + less + n ≡ a = omega arith in
    let tail : drop (dst + less + n) ys ≡ take rest s ++ z =
    rw (after, parts) (drop_at (take a xs) (take rest s ++ z) a fitting) in
    let middle : take n (drop (src + less) ys) ≡ take n t =
    rw (← drop-take (src + less) n ys, front (src + less + n) (omega arith)) (drop-take (src + less) n xs) in
    let split : drop n t ≡ s = drop-drop n (src + less) xs ∙ ap (λ (k : ℕ). drop k xs) (omega arith) in
    let sum : len - less ≡ n + rest = omega arith in
    let end : dst + less + (n + rest) ≡ a + rest = omega arith in
    rw (front (dst + less) (omega arith), middle, tail, sum, end, take-add n rest t, split) (simp append_assoc)

-- a part of a list that is written over one of another
pub overwritten : {A : Type 0} (xs source : List A) (dst src len : ℕ) → src + len ≤ length source
    → dst + len ≤ length xs → overwrite xs dst (take len (drop src source)) ≡ Some (paste xs dst (drop src source) len)
overwritten xs source dst src len from to =
    let rest = length-drop src source in
    rw (length-take-le len (drop src source) (omega arith))
    (cond-true (nat_le (dst + len) (length xs)) _ _ (grind (arith, nat_tests)))

-- a list to which no items are copied stays
pub none_copied : {A : Type 0} (xs source : List A) (dst src : ℕ) → true ≡ nat_le (src + 0) (length source)
    → true ≡ nat_le (dst + 0) (length xs) → copied xs dst source src 0 ≡ Some xs
none_copied xs source dst src from to = rw (← from, ← to) (ap Some (search (rules, take-append-drop)))
