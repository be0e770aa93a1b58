-- Lists by their items (`AreItems`): one number in each place, what is computed of other lists' items, and items that a
-- test chooses. Lanes as std::simd has them are such lists.
use Rattle.std.proofs.Common.{ℕ, ◌-◌, ◌^◌, ◌<◌, ◌≡◌, List, length, get_or, map, replicate, refl, sym, ap, ap₂, ◌∙◌, arith, Bool, false, cond}
use Rattle.wasmi_lanes.proofs.Common.{zip2, sel_l, length-zip2, get_or-zip2, get_or-sel_l, get_or-replicate, length-replicate, tops_compared, get_or-map, Width, bits, length-map, length-sel_l}
use lib.Lanes.{top}
use mir.Val.{hbits}

-- xs has n items, which are f of their places; d stands for what is past them
pub record AreItems {A : Type 0} (n : ℕ) (d : A) (f : ℕ → A) (xs : List A) : Type 0 where
  pub long : length xs ≡ n
  pub are : (i : ℕ) → i < n → get_or xs i d ≡ f i

-- a list of n numbers has its own items
pub items : (n : ℕ) (xs : List ℕ) → length xs ≡ n → AreItems n 0 (λ i. get_or xs i 0) xs
items n xs long = record { long = long; are = λ i inside. refl }

-- a list of n times x
pub repeated : (n x : ℕ) → AreItems n 0 (λ _. x) (replicate n x)
repeated n x = record { long = length-replicate n x; are = λ i inside. get_or-replicate n i x 0 inside }

-- the numbers that g gives for the items of a list
pub mapped : {A : Type 0} {n : ℕ} {d : A} {f : ℕ → A} {xs : List A} → AreItems n d f xs → (g : A → ℕ)
    → AreItems n 0 (λ i. g (f i)) (map g xs)
mapped {d} {xs} of_x g = record {
  long = length-map xs g ∙ of_x.long;
  are = λ i inside. get_or-map g xs i d 0 (omega (arith, of_x.long)) ∙ ap g (of_x.are i inside);
}

-- the numbers that op gives for the items of two lists in the same places
pub zipped : {n : ℕ} {f g : ℕ → ℕ} {xs ys : List ℕ} (op : ℕ → ℕ → ℕ) → AreItems n 0 f xs → AreItems n 0 g ys
    → AreItems n 0 (λ i. op (f i) (g i)) (zip2 op xs ys)
zipped {xs} {ys} op of_x of_y = record {
  long = length-zip2 op xs ys (of_x.long ∙ sym of_y.long) ∙ of_x.long;
  are = λ i inside. get_or-zip2 op xs ys i 0 0 0 (omega (arith, of_x.long)) (omega (arith, of_y.long))
      ∙ ap₂ op (of_x.are i inside) (of_y.are i inside);
}

-- the items of ps in the places where a test holds of the items of xs and ys, else those of qs: as std::simd chooses
-- them, by the highest bits of lanes of w bits that are all ones or all zeros
pub chosen_by : {n : ℕ} {f g p q : ℕ → ℕ} {xs ys ps qs : List ℕ} (w : Width) (test : ℕ → ℕ → Bool) → AreItems n 0 f xs
    → AreItems n 0 g ys → AreItems n 0 p ps → AreItems n 0 q qs
    → AreItems n 0 (λ i. cond (test (f i) (g i)) (p i) (q i))
    (sel_l (map (top (hbits w)) (zip2 (λ a b. cond (test a b) (2 ^ bits w - 1) 0) xs ys)) ps qs)
chosen_by {n} {f} {g} {xs} {ys} {ps} {qs} w test of_x of_y of_p of_q =
    let tests : List Bool = zip2 test xs ys in
    let tested : length tests ≡ n = length-zip2 test xs ys (of_x.long ∙ sym of_y.long) ∙ of_x.long in
    rw (tops_compared w test xs ys) (record {
      long = length-sel_l tests ps qs (tested ∙ sym of_p.long) (tested ∙ sym of_q.long) ∙ tested;
      are = λ i inside.
          rw (get_or-sel_l tests ps qs i 0 (omega arith) (omega (arith, of_p.long)) (omega (arith, of_q.long)))
          (rw (get_or-zip2 test xs ys i 0 0 false (omega (arith, of_x.long)) (omega (arith, of_y.long)))
          (rw (of_x.are i inside, of_y.are i inside, of_p.are i inside, of_q.are i inside)));
    })
