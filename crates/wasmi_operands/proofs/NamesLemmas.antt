-- Names of any enum or kind: a word names one variant, a list has each under its name and tells what the names mean,
-- and two words name one reference, or one instruction on a lane or none.
use Rattle.std.proofs.Common.{ℕ, ◌≡◌, ◌∙◌, List, [], ◌∷◌, inl, inr, Option, None, Some, Result, Err, Bool, true, false, bytes_eq, cond, ok_or, refl, sym, ap, subst, rules, tests, option_and_then, option_map, ◌&&◌}
use denote.Struct.Field.{Field}
use denote.Enum.Bare.{Bare, sameb, same_true}
use denote.Enum.Declared.{Record, Choice, declared}
use Rattle.wasmi_types.specs.contracts.value.RefType.{enum}
use Rattle.wasmi_typed.specs.declared.typed_ref.TypedRawRef.{TypedRawRef}
use Rattle.wasmi_operands.specs.declared.error.LineError.{LineError}
use Rattle.wasmi_operands.specs.declared.error.LineError.TheVariants.{BadCommand}
use Rattle.wasmi_operands.specs.LineWords.{Accepts, WritesNumber, decimal_value}
use Rattle.wasmi_operands.specs.Names.{NameEntry, entry_of, IsNamed, IsName, NamesLane, WritesReference, reference_word}
use Rattle.wasmi_operands.proofs.LineWordsLemmas.{accepts_same, refused_through}
use Rattle.std.proofs.lemmas.Bool.{and_parts}

-- whether each variant of an enum without fields passes a test
abbrev all_pass : (parts : List (List Field)) → Bare parts → (Choice parts → Bool) → Bool
all_pass [] bare test = true
all_pass ([] ∷ parts) bare test = test (inl tt) && all_pass parts bare (λ c. test (inr c))
all_pass ((field ∷ fields) ∷ parts) bare test = absurd bare

-- a list of names, each with its op, tells what its names mean: what it accepts by a name is the op of this name
abbrev pub TellsNames : {A : Type 0} → List (NameEntry A) → (A → List ℕ) → Type 0
TellsNames {A} names name_of = (name : List ℕ) (result : Result A LineError)
    → Accepts result (IsNamed names name) → Accepts result (IsName name_of name)

-- an entry for each variant, with its name
abbrev entries_of : {A : Type 0} (parts : List (List Field)) → Bare parts → (Choice parts → A) → (A → List ℕ)
    → List (NameEntry A)
entries_of [] bare make name_of = []
entries_of ([] ∷ parts) bare make name_of =
    (name_of (make (inl tt)), make (inl tt)) ∷ entries_of parts bare (λ c. make (inr c)) name_of
entries_of ((field ∷ fields) ∷ parts) bare make name_of = absurd bare

-- whether each entry of a list has the name of its op
abbrev pub entries_named : {A : Type 0} → (A → List ℕ) → List (NameEntry A) → Bool
entries_named name_of [] = true
entries_named name_of (entry ∷ entries) = bytes_eq entry.0 (name_of entry.1) && entries_named name_of entries

-- what all variants pass, each of them passes
one_passes : (parts : List (List Field)) (bare : Bare parts) (test : Choice parts → Bool)
    → all_pass parts bare test ≡ true → (c : Choice parts) → test c ≡ true
one_passes [] bare test all c = absurd c
one_passes ([] ∷ parts) bare test all (inl x) = (and_parts (test (inl tt)) _ all).0
one_passes ([] ∷ parts) bare test all (inr c) =
    one_passes parts bare (λ c. test (inr c)) (and_parts (test (inl tt)) _ all).1 c
one_passes ((field ∷ fields) ∷ parts) bare test all c = absurd bare

-- a word and a name whose bytes are equal are one text
pub same_text : (a b : List ℕ) → bytes_eq a b ≡ true → a ≡ b
same_text a b e = search (rules, tests)

module _ {A : Type 0} (name_of : A → List ℕ) where
  -- where each entry of a list has the name of its op, what it gives a name is the op of that name
  found_named : (names : List (NameEntry A)) (name : List ℕ) (op : A) → entries_named name_of names ≡ true
      → entry_of names name ≡ Some op → name ≡ name_of op
  found_named [] name op right found = cc
  found_named (entry ∷ entries) name op right found =
      let named = and_parts (bytes_eq entry.0 (name_of entry.1)) (entries_named name_of entries) right in
      elim (bytes_eq entry.0 name) as
      (λ b. bytes_eq entry.0 name ≡ b → cond b (Some entry.1) (entry_of entries name) ≡ Some op → name ≡ name_of op) [
        | true ↦ λ here is. let a = same_text entry.0 (name_of entry.1) named.0 in let b =
            same_text entry.0 name here in cc
        | false ↦ λ here is. found_named entries name op named.1 is
      ] refl found

-- an enum without fields, and the names of its variants
module _ (N : Record) (bare : Bare N.parts) (name_of : N.D → List ℕ) where
  abbrev is_found : Option N.D → N.D → Bool
  is_found None op = false
  is_found (Some found) op = sameb (declared N) found op

  -- whether a list has each variant under its name
  abbrev pub has_each : List (NameEntry N.D) → Bool
  has_each names = all_pass N.parts bare (λ c. is_found (entry_of names (name_of (N.make c))) (N.make c))

  abbrev pub entries : List (NameEntry N.D)
  entries = entries_of N.parts bare N.make name_of

  -- what is found under a name is the variant that was asked for
  found_is : (found : Option N.D) (op : N.D) → is_found found op ≡ true → found ≡ Some op
  found_is None op e = absurd cc
  found_is (Some found) op e = ap (λ it. Some it) (same_true (declared N) bare found op e)

  -- a list that has each variant under its name gives a name its variant
  entry_found : (names : List (NameEntry N.D)) → has_each names ≡ true → (op : N.D) → IsNamed names (name_of op) op
  unfolding IsNamed
  entry_found names whole op = subst (λ it. IsNamed names (name_of it) it) (N.eta op)
      (found_is (entry_of names (name_of (N.make (N.as_values op)))) (N.make (N.as_values op))
      (one_passes N.parts bare (λ c. is_found (entry_of names (name_of (N.make c))) (N.make c)) whole (N.as_values op)))

  -- the variant of a name
  pub named : List ℕ → Option N.D
  named = entry_of entries

  -- where names differ, the name of a variant gives that variant
  pub named_is : has_each entries ≡ true → (word : List ℕ) (op : N.D) → word ≡ name_of op → named word ≡ Some op
  unfolding named IsNamed
  named_is whole word op is = ap (entry_of entries) is ∙ entry_found entries whole op

  -- variants of one name are one, where names differ
  pub one_named : has_each entries ≡ true → (a b : N.D) → name_of a ≡ name_of b → a ≡ b
  one_named whole a b is =
      let left = named_is whole (name_of a) a refl in
      let right = named_is whole (name_of a) b is in
      cc

  -- a list that has each op under its name tells what names mean
  pub tells_names : (names : List (NameEntry N.D)) → entries_named name_of names ≡ true → has_each names ≡ true
      → TellsNames names name_of
  unfolding IsName IsNamed
  tells_names names right whole name result = accepts_same result (IsNamed names name) (λ op. name ≡ name_of op)
      (λ op. found_named name_of names name op right)
      (λ op is. rw is (entry_found names whole op))

-- the reference that two words write
pub reference_named : List ℕ → List ℕ → Option TypedRawRef
reference_named ty raw = option_map (λ t. record { ty = t; raw = decimal_value raw }) (named enum tt reference_word ty)

-- two words that write a reference give that reference
pub reference_is : (ty raw : List ℕ) (reference : TypedRawRef) → WritesReference ty raw reference
    → reference_named ty raw ≡ Some reference
unfolding reference_named
reference_is ty raw reference w = λ i.
    option_map (λ t. record { ty = t; raw = sym w.1.1 i }) (named_is enum tt reference_word refl ty reference.ty w.0 i)

-- kinds of instructions on a lane with their names, and the instruction of a kind on the lane of an index
module _ {Kind Op : Type 0} (name_of : Kind → List ℕ) (op_on : Kind → ℕ → Option Op) where
  -- a word that is no name names no instruction
  pub no_name : (name lane : List ℕ) (error : LineError) (result : Result Op LineError) → result ≡ Err error
      → Accepts {A = Kind} (Err error) (IsName name_of name) → Accepts result (NamesLane name_of op_on name lane)
  unfolding NamesLane
  no_name name lane error result is = refused_through error result is (λ op w. (w.0, w.2))

  -- a word that is no index names no instruction
  pub no_index : (name lane : List ℕ) (error : LineError) (result : Result Op LineError) → result ≡ Err error
      → Accepts {A = ℕ} (Err error) (WritesNumber 8 lane) → Accepts result (NamesLane name_of op_on name lane)
  unfolding NamesLane
  no_index name lane error result is = refused_through error result is (λ op w. (w.1, w.3))

-- for any kind of instruction on one lane: a name and an index name what is on the lane of the index, if there is one
abbrev pub NamesOnLane : {Kind Op : Type 0} → (Kind → List ℕ) → (Kind → ℕ → Option Op) → Type 0
NamesOnLane {Kind} {Op} name_of op_on = (name lane : List ℕ) (kind : Kind) (index : ℕ) (result : Result Op LineError)
    → IsName name_of name kind → WritesNumber 8 lane index → result ≡ ok_or (op_on kind index) BadCommand
    → Accepts result (NamesLane name_of op_on name lane)

module _ (N : Record) (bare : Bare N.parts) (name_of : N.D → List ℕ) {Op : Type 0} (op_on : N.D → ℕ → Option Op) where
  -- the instruction that two words name, the second of which is a lane's index
  pub lane_named : List ℕ → List ℕ → Option Op
  lane_named name lane = option_and_then (λ kind. op_on kind (decimal_value lane)) (named N bare name_of name)

  -- two words that name an instruction on a lane give that instruction
  pub lane_is : (name lane : List ℕ) → has_each N bare name_of (entries N bare name_of) ≡ true → (op : Op)
      → NamesLane name_of op_on name lane op → lane_named name lane ≡ Some op
  unfolding NamesLane lane_named IsName
  lane_is name lane whole op w = rw (named_is N bare name_of whole name w.0 w.2, ← w.3.1) w.4

  -- where each kind has a name of its own, a name and an index name what is on the lane
  pub names_on : has_each N bare name_of (entries N bare name_of) ≡ true → NamesOnLane name_of op_on
  unfolding NamesLane IsName
  names_on whole name lane kind index result is_name is_index given =
      rw given (
      elim (op_on kind index) as (λ found. op_on kind index ≡ found
      → Accepts (ok_or found BadCommand) (NamesLane name_of op_on name lane)) [
        | None ↦ λ none. λ op w.
            let same = one_named N bare name_of whole w.0 kind (sym w.2 ∙ is_name) in
            absurd (cc (none, w.3.1, is_index.1, w.4))
        | Some op ↦ λ found. (kind, index, is_name, is_index, found)
      ] refl
      )
