-- A buffer that was grown, by where its bytes lie: in memory of its own, or at the front of a lent region.
use Rattle.std.proofs.Common.{◌≡◌, ℕ, ◌+◌, ◌-◌, ◌≤◌, List, ◌++◌, length, take, drop, replicate, refl, sym, ap, ◌∙◌, arith, Vec, Global, true}
use Rattle.wasmi_store.proofs.Common.{take-take, nat_tests, take_all, drop_all, append-nil, take_at, drop_at, drop-drop, length-replicate, with_zeros, fits_room, refilled_front, view_of, EndsWithin}
use Rattle.std.proofs.lemmas.List.{length-append, length-take-le, length-drop}
use Rattle.wasmi_store.specs.declared.memory.buffer.Storage.TheVariants.{Owned, Lent}

-- a list, and n zeros
abbrev padded : List ℕ → ℕ → List ℕ
padded xs n = xs ++ replicate n 0

-- n zeros make a list longer by n
length-padded : (xs : List ℕ) (n : ℕ) → length (padded xs n) ≡ length xs + n
length-padded xs n = simp (length-append, length-replicate)

module _ {Region : Type 0} (bytes : Region → List ℕ) (len n : ℕ) where
  -- memory of its own that was padded up to n bytes holds the buffer with zeros after its bytes
  pub owned_grows : (v w : Vec ℕ Global) → EndsWithin bytes (Owned v) len → length (take len v.items) ≤ n
      → w.items ≡ padded (take n v.items) (n - v.len)
      → view_of bytes (Owned w) n ≡ with_zeros (view_of bytes (Owned v) len) (n - length (take len v.items))
  owned_grows v w ends le grown =
      let whole : take len v.items ≡ v.items = take_all len v.items (omega arith) in
      let short : length v.items ≤ n = rw (sym whole) le in
      let added : w.items ≡ padded v.items (n - length v.items) = rw (grown, v.ok.0, take_all n v.items short) refl in
      let full : length w.items ≡ n = rw added (length-padded v.items (n - length v.items) ∙ omega arith) in
      rw (take_all n w.items (omega arith), added, whole) refl

  -- a region whose first n bytes were written over, by the buffer's and zeros, holds the buffer with zeros
  pub lent_grows : (region region' : Region) → EndsWithin bytes (Lent region) len → length (take len (bytes region)) ≤ n
      → fits_room (view_of bytes (Lent region) len).room (n - length (take len (bytes region))) ≡ true → (ws : List ℕ)
      → ws ≡ padded (take len (take n (bytes region))) (n - len) ++ drop n (take n (bytes region))
      → bytes region' ≡ refilled_front (bytes region) n ws → view_of bytes (Lent region') n
      ≡ with_zeros (view_of bytes (Lent region) len) (n - length (take len (bytes region)))
  lent_grows region region' ends le room ws zeros after =
      let xs : List ℕ = bytes region in
      let used : length (take len xs) ≡ len = length-take-le len xs ends in
      let left : length (drop len xs) ≡ length xs - len = length-drop len xs in
      let within : n ≤ length xs = grind (arith, nat_tests) in
      let front : length (take n xs) ≡ n = length-take-le n xs within in
      let kept : take len (take n xs) ≡ take len xs = take-take len n xs (omega arith) in
      let zeroed : ws ≡ padded (take len xs) (n - length (take len xs)) =
      rw (zeros, kept, drop_all n (take n xs) (omega arith), used) (append-nil (padded (take len xs) (n - len))) in
      let long : length ws ≡ n = rw zeroed (length-padded (take len xs) (n - length (take len xs)) ∙ omega arith) in
      let written : bytes region' ≡ ws ++ drop n xs = after ∙ ap (λ (l : List ℕ). l ++ drop n xs)
      (take_at ws (drop (length ws) (take n xs)) (length (take n xs)) (omega arith)) in
      let rest : drop (n - length (take len xs)) (drop len xs) ≡ drop n xs =
      drop-drop (n - length (take len xs)) len xs ∙ ap (λ (k : ℕ). drop k xs) (omega arith) in
      rw (written, take_at ws (drop n xs) n long, drop_at ws (drop n xs) n long, rest, zeroed) refl
