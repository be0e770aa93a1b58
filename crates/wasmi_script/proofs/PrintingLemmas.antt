-- Texts that a printer prints one after the other, whole or in part, and texts that are written one after the other to
-- the front of bytes.
use Rattle.std.proofs.Common.{◌≡◌, ◌∙◌, ◌+◌, ◌<◌, ℕ, zero, suc, List, [], ◌∷◌, ◌++◌, length, take, drop, get_or, map, add-one, take-append-drop, drop-cons, None, Some, Result, Ok, Err, IfSome, OnOk, OnErr, refl, sym, ap, append_assoc, append-nil, ◌-◌, ◌%◌, ◌^◌, min, arith, length-append, length-take, length-drop}
use Rattle.wasmi_script.proofs.Common.{WritesText, decimal, on_ok_weaker, on_err_weaker, flat_map_more, take_more, drop-drop, drop_at, drop_min, take_all, take_at, take_min, Appends, Appends-nil, Appends-trans, AppendsFront, AddsText, Flushes, Prints, PrintsFront, PrintsText, SendsFront, AddsToFront, FillsFront, HasFront}
use Rattle.std.proofs.lemmas.Fmt.{contents_after_writes, decimal_digit}
use Rattle.std.specs.List.{flat_map}
use Rattle.std.proofs.lemmas.List.Concat.{flat_map-append}
use Rattle.std.proofs.lemmas.List.Folds.{flat_map-map}
use Rattle.arrayvec.specs.ArrayString.{ArrayString}
use Rattle.std.specs.declared.option.Option.{Option}
use Rattle.wasmi_script.specs.declared.printing.Printer.{Printer}
use borrow.Rule.Slice.PartMut.{put_mid}

-- a text in two parts comes after what waits
passes_then : (a b c : Option (List ℕ)) (u v w s t text : List ℕ) → text ≡ s ++ t → AddsText a b u v s
    → AddsText b c v w t → AddsText a c u w text
passes_then a b c u v w s t text is (front, split, sent) (front', split', sent') = (
  front ++ front',
  rw (is, ← append_assoc u s t, split, append_assoc front v t, split', append_assoc front front' w),
  Appends-trans a b c front front' sent sent',
)

-- what goes out of a text goes out of a longer one
front_longer : (a b : Option (List ℕ)) (s t : List ℕ) → AppendsFront a b s → AppendsFront a b (s ++ t)
front_longer a b s t (front, rest, split, sent) =
    (front, rest ++ t, rw (split, append_assoc front rest t), sent)

-- what goes out after a text
front_after : (a b c : Option (List ℕ)) (u v s t : List ℕ) → AddsText a b u v s → AppendsFront b c (v ++ t)
    → AppendsFront a c (u ++ (s ++ t))
front_after a b c u v s t (front, split, sent) (front', rest, split', sent') = (
  front ++ front',
  rest,
  rw (← append_assoc u s t, split, append_assoc front v t, split', append_assoc front front' rest),
  Appends-trans a b c front front' sent sent',
)

-- a text that is written into a chunk
abbrev pub Takes : ArrayString → List ℕ → ArrayString → Type 0
Takes s bytes t = t.bytes ≡ s.bytes ++ bytes

-- the front of a text whose first part is printed in part
front_first : (a b : Option (List ℕ)) (u s rest text : List ℕ) → text ≡ s ++ rest → AppendsFront a b (u ++ s)
    → AppendsFront a b (u ++ text)
front_first a b u s rest text is sent =
    rw (is, ← append_assoc u s rest) (front_longer a b (u ++ s) rest sent)

-- the front of a text whose first part is printed, and a later one in part
front_then : (a b c : Option (List ℕ)) (u v s t rest text : List ℕ) → text ≡ s ++ (t ++ rest) → AddsText a b u v s
    → AppendsFront b c (v ++ t) → AppendsFront a c (u ++ text)
front_then a b c u v s t rest text is first sent =
    rw is (front_after a b c u v s (t ++ rest) first (front_first b c v t rest (t ++ rest) refl sent))

-- the same of a printer, by the bytes that its writer is known to have
module _ {W : Type 0} (contents : W → Option (List ℕ)) where
  -- a text is printed in two parts
  pub prints_then : (p q r : Printer W) (s t text : List ℕ) → text ≡ s ++ t → Prints contents p q s
      → Prints contents q r t → Prints contents p r text
  prints_then p q r s t text is first second = record {
    writer = second.writer ∙ first.writer;
    passed = passes_then _ _ _ _ _ _ s t text is first.passed second.passed;
  }

  -- the front of a text whose first part is printed in part
  pub prints_first : (p q : Printer W) (s rest text : List ℕ) → text ≡ s ++ rest → PrintsFront contents p q s
      → PrintsFront contents p q text
  prints_first p q s rest text is sent =
      record { writer = sent.writer; sent = front_first _ _ _ s rest text is sent.sent }

  -- the front of a text whose first part is printed, and a later one in part
  pub prints_front : (p q r : Printer W) (s t rest text : List ℕ) → text ≡ s ++ (t ++ rest) → Prints contents p q s
      → PrintsFront contents q r t → PrintsFront contents p r text
  prints_front p q r s t rest text is first sent = record {
    writer = sent.writer ∙ first.writer;
    sent = front_then _ _ _ _ _ s t rest text is first.passed sent.sent;
  }

  -- a text is printed in part where the writer has failed
  pub in_part : {E : Type 0} {error : E} (result : Result (Unit {0}) E) (p q : Printer W) (text : List ℕ)
      → result ≡ Err error → PrintsFront contents p q text → PrintsText contents text p result q
  in_part result p q text is front = rw is (tt, front)

  -- a text is printed where its last part is, and in part where its last part is printed in part
  pub last_part : {E : Type 0} (result : Result (Unit {0}) E) (p q r : Printer W) (s t text : List ℕ) → text ≡ s ++ t
      → Prints contents p q s → PrintsText contents t q result r → PrintsText contents text p result r
  last_part result p q r s t text is first prints = (
    on_ok_weaker result (prints_then p q r s t text is first) prints.0,
    on_err_weaker result (prints_front p q r s t [] text (is ∙ ap (λ l. s ++ l) (sym (append-nil t))) first) prints.1,
  )

  -- what a printer's reference refers to at last is what its writer is once a text is printed and what waits is sent
  pub kept : {E : Type 0} (printed result : Result (Unit {0}) E) (p q r : Printer W) (text : List ℕ) (v : W)
      → PrintsText contents text p printed q → Flushes contents printed q result r
      → (p.writer.ghost_name ≡ r.writer.ghost_name → v ≡ r.writer.now) → v ≡ r.writer.now
  kept (Ok x) (Ok y) p q r text v prints sent last = last (sym (sent.writer ∙ prints.0.writer))
  kept (Ok x) (Err e) p q r text v prints sent last = last (sym (sent.writer ∙ prints.0.writer))
  kept (Err e) (Ok y) p q r text v prints sent last = absurd sent
  kept (Err e) (Err e') p q r text v prints same last =
      last (sym (ap (λ (x : Printer W). x.writer.ghost_name) same ∙ prints.1.writer))

  -- the writer has a text that a printer with an empty chunk prints, once what waits is sent
  pub all_sent : {E : Type 0} (printed result : Result (Unit {0}) E) (p q r : Printer W) (text : List ℕ) (old v : W)
      → PrintsText contents text p printed q → Flushes contents printed q result r → p.chunk.bytes ≡ []
      → p.writer.now ≡ old → (p.writer.ghost_name ≡ r.writer.ghost_name → v ≡ r.writer.now)
      → OnOk result (Appends (contents old) (contents v) text)
  all_sent {E = E} (Ok x) (Ok y) p q r text old v prints sent empty same last =
      let (front, split, gone) = prints.0.passed in
      let whole : text ≡ front ++ q.chunk.bytes = ap (λ l. l ++ text) (sym empty) ∙ split in
      rw (kept {E = E} (Ok x) (Ok y) p q r text v prints sent last, ← same, whole)
      (Appends-trans _ _ _ front q.chunk.bytes gone sent.sent)
  all_sent (Err e) (Ok y) p q r text old v prints sent empty same last = absurd sent
  all_sent printed (Err e) p q r text old v prints sent empty same last = tt

  -- the writer has the front of such a text where it fails
  pub front_sent : {E : Type 0} (printed result : Result (Unit {0}) E) (p q r : Printer W) (text : List ℕ) (old v : W)
      → PrintsText contents text p printed q → Flushes contents printed q result r → p.chunk.bytes ≡ []
      → p.writer.now ≡ old → (p.writer.ghost_name ≡ r.writer.ghost_name → v ≡ r.writer.now)
      → OnErr result (AppendsFront (contents old) (contents v) text)
  front_sent printed (Ok y) p q r text old v prints sent empty same last = tt
  front_sent (Ok x) (Err e) p q r text old v prints sent empty same last =
      let front = prints_front p q r text [] [] text (sym (append-nil text)) prints.0
      (record { writer = sent.writer; sent = rw append-nil sent.sent }) in
      rw (kept (Ok x) (Err e) p q r text v prints sent last, ← same) (rw empty at front.sent)
  front_sent (Err e) (Err e') p q r text old v prints sent empty same last =
      rw (kept (Err e) (Err e') p q r text v prints sent last, ← same, sent) (rw empty at prints.1.sent)

  -- what holds of the writer once it is flushed holds at last
  pub still : (F : W → Type 0) {E : Type 0} (printed result : Result (Unit {0}) E) (p q r : Printer W) (text : List ℕ)
      (v : W) → PrintsText contents text p printed q → Flushes contents printed q result r
      → OnOk result (F r.writer.now) → (p.writer.ghost_name ≡ r.writer.ghost_name → v ≡ r.writer.now)
      → OnOk result (F v)
  still F printed result p q r text v prints sent flushed last =
      rw (kept printed result p q r text v prints sent last) flushed

  -- a text waits beside what waited
  waits : (p q : Printer W) (text : List ℕ) → q.writer ≡ p.writer → q.chunk.bytes ≡ p.chunk.bytes ++ text
      → Prints contents p q text
  waits p q text same is = record {
    writer = ap (λ w. w.ghost_name) same;
    passed = rw same ([], sym is, Appends-nil _);
  }

  -- a text that there is room for, as it is or as it is written
  pub printed : {E : Type 0} (r : Result (Unit {0}) E) (output written : Option (List ℕ)) (p q s : Printer W)
      (text : List ℕ → List ℕ) → ((bytes : List ℕ) → output ≡ Some bytes → written ≡ Some (text bytes))
      → Prints contents p q [] → s.writer ≡ q.writer → OnOk r (WritesText Takes q.chunk written s.chunk)
      → OnOk r (IfSome output (λ bytes. Prints contents p s (text bytes)))
  printed (Ok x) None written p q s text as_written room same writes = tt
  printed (Ok x) (Some bytes) written p q s text as_written room same writes =
      let known = rw (as_written bytes refl) at writes in
      prints_then p q s [] (text bytes) (text bytes) refl room
      (waits q s (text bytes) same (contents_after_writes Takes (λ x. x.bytes) (λ w bs v h. h) q.chunk (text bytes) s.chunk known))
  printed (Err e) output written p q s text as_written room same writes = tt

  -- a text for which there is no room, or that can't be made
  pub no_room : {E : Type 0} (r : Result (Unit {0}) E) (output : Option (List ℕ)) (p q : Printer W)
      (text : List ℕ → List ℕ)
      → SendsFront contents p q → OnErr r (IfSome output (λ bytes. PrintsFront contents p q (text bytes)))
  no_room (Ok x) output p q text sent = tt
  no_room (Err e) None p q text sent = tt
  no_room (Err e) (Some bytes) p q text sent =
      record { writer = sent.writer; sent = front_longer _ _ _ (text bytes) sent.sent }

  -- a text for which there is room, but that can't be made
  pub no_text : {E : Type 0} (r : Result (Unit {0}) E) (output : Option (List ℕ)) (p q s : Printer W)
      (text : List ℕ → List ℕ) → Prints contents p q [] → s.writer ≡ q.writer
      → OnErr r (IfSome output (λ bytes. PrintsFront contents p s (text bytes)))
  no_text (Ok x) output p q s text room same = tt
  no_text (Err e) None p q s text room same = tt
  no_text (Err e) (Some bytes) p q s text room same =
      record {
        writer = ap (λ w. w.ghost_name) same ∙ room.writer;
        sent = rw same (front_after _ _ _ _ _ [] (text bytes) room.passed ([], _, refl, Appends-nil _));
      }

-- texts one after the other: those up to a place, the one there, and the later ones
module _ {X : Type 0} {A : Type 0} (text : X → List A) where
  -- texts up to the next place are those up to a place and the one there
  pub texts_more : (xs : List X) (i : ℕ) (d : X) → i < length xs
      → flat_map text (take (i + 1) xs) ≡ flat_map text (take i xs) ++ text (get_or xs i d)
  texts_more xs i d within =
      rw (take_more xs i d within) (sym (flat_map_more text [] (take i xs) (get_or xs i d)))

  -- all texts are those up to a place, the one there and the later ones
  pub texts_at : (xs : List X) (i : ℕ) (d : X) → i < length xs
      → flat_map text xs ≡ flat_map text (take i xs) ++ (text (get_or xs i d) ++ flat_map text (drop (i + 1) xs))
  texts_at xs i d within =
      ap (flat_map text) (sym (take-append-drop i xs)) ∙ flat_map-append text (take i xs) (drop i xs)
      ∙ rw (add-one, drop-cons xs i d within)

-- texts of what an iterator yields, printed one after the other: v is what is seen of an item, and all are to be seen
module _ {W A B : Type 0} (contents : W → Option (List ℕ)) (text : B → List ℕ) (v : A → B) (all : List B) where
  -- the text of the items that were yielded
  abbrev yielded_text : List A → List ℕ
  yielded_text yielded = flat_map (λ x. text (v x)) yielded

  -- the text of one yielded item more is printed
  pub yields_more : (p q r : Printer W) (yielded : List A) (x : A) → Prints contents p q (yielded_text yielded)
      → Prints contents q r (text (v x)) → Prints contents p r (yielded_text (yielded ++ x ∷ []))
  yields_more p q r yielded x =
      prints_then contents p q r (yielded_text yielded) (text (v x)) (yielded_text (yielded ++ x ∷ []))
      (sym (flat_map_more (λ y. text (v y)) [] yielded x))

  -- the text of one yielded item more is printed in part
  pub yields_front : (p q r : Printer W) (yielded : List A) (x : A)
      → (map v yielded ≡ take (length yielded) all) × (length yielded < length all)
      × (v x ≡ get_or all (length yielded) (v x))
      → Prints contents p q (yielded_text yielded) → PrintsFront contents q r (text (v x))
      → PrintsFront contents p r (flat_map text all)
  yields_front p q r yielded x (before, within, here) =
      let i = length yielded in
      let later = flat_map text (drop (i + 1) all) in
      prints_front contents p q r (yielded_text yielded) (text (v x)) later (flat_map text all)
      (texts_at text all i (v x) within ∙ ap (λ t. t ++ (text (get_or all i (v x)) ++ later))
      (ap (flat_map text) (sym before) ∙ flat_map-map text v yielded)
      ∙ ap (λ y. yielded_text yielded ++ (text y ++ later)) (sym here))

  -- the texts of all items are printed once all were yielded
  pub yields_all : (p q : Printer W) (yielded : List A) → map v yielded ≡ all
      → Prints contents p q (yielded_text yielded) → Prints contents p q (flat_map text all)
  yields_all p q yielded whole prints = rw (← whole, flat_map-map text v yielded) prints

-- one text after the other is written to the front of bytes
pub adds_then : (s t a b c : List ℕ) (i j k : ℕ) → AddsToFront s a i b j → AddsToFront t b j c k
    → AddsToFront (s ++ t) a i c k
adds_then s t a b c i j k first second before start had =
    rw (← append_assoc before s t) (second (before ++ s) start (first before start had))

-- bytes at whose front a text stands have their length still
front_length : (text start bytes : List ℕ) → FillsFront text start bytes → length bytes ≡ length start
front_length text start bytes front = rw front (simp (length-append, length-take, length-drop) (omega arith))

-- the front of two lists, one after the other, is a front of each
take_both : {A : Type 0} (n : ℕ) (xs ys : List A) → take n (xs ++ ys) ≡ take n xs ++ take (n - length xs) ys
take_both zero xs ys = let none : 0 ≡ 0 - length xs = omega arith in ap (λ k. take k ys) none
take_both (suc n) [] ys = let all : suc n ≡ suc n - 0 = omega arith in ap (λ k. take k ys) all
take_both (suc n) (x ∷ xs) ys =
    let later : n - length xs ≡ suc n - length (x ∷ xs) = omega arith in
    ap (λ l. x ∷ l) (take_both n xs ys ∙ ap (λ k. take n xs ++ take k ys) later)

-- as much of a text as fits comes after the one before
fitted : (before text start bytes : List ℕ) (from count : ℕ) → FillsFront before start bytes
    → from ≡ min (length before) (length start) → count ≡ min (length start - length before) (length text)
    → FillsFront (before ++ text) start (put_mid from count bytes (take count text))
fitted before text start bytes from count front begins is =
    let kept = take (length start) before in
    let fits : length kept ≡ from = omega (arith, length-take (length start) before, begins) in
    let left : take from bytes ≡ kept = ap (take from) front ∙ take_at kept _ from fits in
    let right : drop from bytes ≡ drop (length before) start = ap (drop from) front ∙ drop_at kept _ from fits in
    let taken : take count text ≡ take (length start - length before) text =
    ap (λ n. take n text) is ∙ take_min (length start - length before) text in
    let put : put_mid from count bytes (take count text)
    ≡ kept ++ (take (length start - length before) text ++ drop (length before + count) start) =
    λ i. left i ++ (taken i ++ (ap (drop count) right ∙ drop-drop count (length before) start) i) in
    let ends : min (length before + count) (length start) ≡ min (length (before ++ text)) (length start) =
    omega (arith, is, length-append before text) in
    let rest : drop (length before + count) start ≡ drop (length (before ++ text)) start =
    sym (drop_min (length before + count) start) ∙ ap (λ n. drop n start) ends
    ∙ drop_min (length (before ++ text)) start in
    put ∙ sym (append_assoc kept (take (length start - length before) text) (drop (length before + count) start))
    ∙ (λ i. sym (take_both (length start) before text) i ++ rest i)

-- as much of a text as fits comes after those before it
pub added : (text bytes : List ℕ) (written from count more : ℕ) → length bytes < 2 ^ 64
    → from ≡ min written (length bytes) → count ≡ min (length text) (length bytes - from)
    → more ≡ min (written + length text) (2 ^ 64 - 1)
    → AddsToFront text bytes written (put_mid from count bytes (take count text)) more
added text bytes written from count more small begins counts adds before start had =
    let same : length bytes ≡ length start = front_length before start bytes had.front in
    let here : from ≡ min (length before) (length start) = omega (arith, same, had.count) in
    let fits : count ≡ min (length start - length before) (length text) = omega (arith, same, here) in
    record {
      front = fitted before text start bytes from count had.front here fits;
      count = omega (arith, length-append before text, had.count);
    }

-- the text that is written of a number below 10 is its only digit
pub one_digit : (n : ℕ) → n < 10 → (48 + n % 10) ∷ [] ≡ decimal n
one_digit n small = ap (λ d. (48 + d) ∷ []) (omega arith) ∙ sym (decimal_digit n small)

-- the text of one item more is written to the front of bytes
pub adds_more : {X : Type 0} (text : X → List ℕ) (yielded : List X) (x : X) (a b c : List ℕ) (i j k : ℕ)
    → AddsToFront (flat_map text yielded) a i b j → AddsToFront (text x) b j c k
    → AddsToFront (flat_map text (yielded ++ x ∷ [])) a i c k
adds_more text yielded x a b c i j k first second =
    rw (← flat_map_more text [] yielded x) (adds_then (flat_map text yielded) (text x) a b c i j k first second)

-- a text that is written from the start on stands at the front of bytes
pub fills : (text a b : List ℕ) (j : ℕ) → AddsToFront text a 0 b j → HasFront text a b j
fills text a b j adds =
    let none : take (length a) [] ≡ [] = take_all (length a) [] (omega arith) in
    adds [] a (record { front = ap (λ t. t ++ a) (sym none); count = refl })
