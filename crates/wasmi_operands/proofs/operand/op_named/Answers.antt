use Rattle.std.proofs.Common.{◌≡◌, ◌∙◌, ◌∷◌, ℕ, Bor, true, false, List, [], Some, bytes_eq, cond, map, refl, ap, sym, rules, tests, find, option_map}
use Rattle.std.proofs.lemmas.Iterator.{YieldsList-from_slice}
use Rattle.std.proofs.lemmas.Iterator.Search.{find_from_yields_List}
use Rattle.wasmi_operands.specs.Names.{IsNamed, entry_of}
use Rattle.wasmi_operands.proofs.operand.op_named.Goals as goal

-- the first entry of a name, and what it names
entry_of_found : {A : Type 0} (names : List (Bor (List ℕ) × A)) (name : List ℕ)
    → entry_of (map (λ entry. (entry.0.now, entry.1)) names) name
    ≡ option_map (λ entry. entry.1) (find (λ entry. bytes_eq entry.0.now name) names)
entry_of_found [] name = refl
entry_of_found (entry ∷ entries) name =
    elim (bytes_eq entry.0.now name) as
    (λ b. cond b (Some entry.1) (entry_of (map (λ entry. (entry.0.now, entry.1)) entries) name)
    ≡ option_map (λ entry. entry.1) (cond b (Some entry) (find (λ entry. bytes_eq entry.0.now name) entries))) [
      | true ↦ refl
      | false ↦ entry_of_found entries name
    ]

pub returns : goal.returns
unfolding IsNamed
returns g c =
    let name = c.args.name.now in
    let found = find_from_yields_List
    (λ entry. bytes_eq entry.0.now name) _ _ c.find-entry.result c.find-entry.ensures.ran
    (YieldsList-from_slice _ c.iter.ensures.rest) (λ x b q k. search (rules, tests)) in
    let is : c.map.result ≡ option_map (λ entry. entry.1) (option_map (λ entry. entry.now) c.find-entry.result) =
    search (rules, tests) in
    let named : c.map.result ≡ entry_of (map (λ entry. (entry.0.now, entry.1)) c.args.names.now) name =
    is ∙ ap (option_map (λ entry. entry.1)) found ∙ sym (entry_of_found c.args.names.now name) in
    search (rules, tests)
