-- An element segment in the midst of being read of an iterator: one more item was appended, or memory was refused for
-- it.
use Rattle.std.proofs.Common.{◌≡◌, ℕ, Option, Some, List, [], ◌∷◌, ◌++◌, length, ◌<◌, arith, length-append, refl}
use Rattle.wasmi_types.proofs.ReadingLemmas.{SoFar, SoFar-next, Yields-snoc}
use Rattle.wasmi_store.specs.Segment.{most_items, IsOutOfMemory}

module _ {I : Type 0} {steps : I → Option ℕ → I → Type 0} {can : I → Type 0} {s t u : I} (xs : List ℕ)
    (e : SoFar steps can s [] (length xs) t xs) (x : ℕ) (next : steps t (Some x) u) where
  -- one more item was appended
  pub read_next : (ys : List ℕ) → ys ≡ xs ++ x ∷ [] → can u → SoFar steps can s [] (length ys) u ys
  read_next ys appended callable =
      rw (appended, length-append xs (x ∷ [])) (SoFar-next e x next refl callable)

  -- memory was refused for one more item
  pub read_refused : length xs < most_items → IsOutOfMemory steps s u
  read_refused few = record {
    items = e.items ++ x ∷ [];
    run = Yields-snoc steps s t u e.items x e.run next;
    some = omega (arith, length-append e.items (x ∷ []));
    short = omega (arith, few, e.counted, length-append e.items (x ∷ []));
  }
