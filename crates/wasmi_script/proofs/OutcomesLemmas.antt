-- The lines of an outcome up to a place: those of tenants, those of calls with their replies, and the numbers in the
-- line of a reply; and the outcomes of bytes that aren't read.
use Rattle.std.proofs.Common.{ℕ, zero, suc, ◌+◌, ◌<◌, ◌≡◌, ◌∙◌, ◌++◌, ◌∷◌, List, [], length, take, drop, get_or, ◌≤◌, Bor, refl, sym, ap, arith, append_assoc, codes, Option, None, Some, Err, replicate}
use Rattle.wasmi_script.proofs.Common.{enumerate_from, decimal, take_all, length-replicate, Call, Reply, State, line, bytes_in, bytes_text, head_text, reply_text, tenant_line, tenants_text, IsReadError, script_limit, IsOutcomeOfReader, BadCommand, OutOfMemory, Parse, TooLong, ReadFault}
use Rattle.std.specs.List.{flat_map}
use Rattle.std.proofs.lemmas.List.FromFn.{length-enumerate_from, get_or-enumerate_from}
use Rattle.wasmi_script.proofs.PrintingLemmas.{texts_more, texts_at}
use Rattle.wasmi_script.specs.declared.error.ReplayError.{ReplayError}

-- the first of numbered items, as tenants are, are the first ones, numbered
take_numbered : {X : Type 0} (n count : ℕ) (xs : List X)
    → take count (enumerate_from n xs) ≡ enumerate_from n (take count xs)
take_numbered n zero xs = refl
take_numbered n (suc count) [] = refl
take_numbered n (suc count) (x ∷ xs) = ap (λ items. (n, x) ∷ items) (take_numbered (n + 1) count xs)

-- the line of a numbered tenant
abbrev one_text : ℕ × Option State → List ℕ
one_text tenant = tenant_line tenant.0 tenant.1

-- the tenant of an index
module _ (machines : List (Option State)) (index : ℕ) (within : index < length machines) where
  -- the tenants with their numbers
  abbrev numbered : List (ℕ × Option State)
  numbered = enumerate_from 0 machines

  -- the index is one of the numbered tenants
  inside : index < length numbered
  inside = omega (arith, within, length-enumerate_from 0 machines)

  -- the line of the tenant of an index is that of the numbered one
  its_line : one_text (get_or numbered index (0, None)) ≡ tenant_line index (get_or machines index None)
  its_line = ap one_text (get_or-enumerate_from 0 machines index (0, None) within)
      ∙ ap (λ n. tenant_line n (get_or machines index None)) (omega arith)

  -- the line of the tenant of an index comes after those of the tenants before it
  pub one_tenant : tenants_text (take (index + 1) machines)
      ≡ tenants_text (take index machines) ++ tenant_line index (get_or machines index None)
  one_tenant = ap (flat_map one_text) (sym (take_numbered 0 (index + 1) machines))
      ∙ texts_more one_text numbered index (0, None) inside
      ∙ (λ i. flat_map one_text (take_numbered 0 index machines i) ++ its_line i)

  -- the lines of all tenants are those before an index, that of its tenant and the later ones
  pub tenants_whole : tenants_text machines ≡ tenants_text (take index machines)
      ++ (tenant_line index (get_or machines index None) ++ flat_map one_text (drop (index + 1) numbered))
  tenants_whole = rw (texts_at one_text numbered index (0, None) inside, take_numbered 0 index machines, its_line)

-- a call and its reply, as the line of an outcome is made of them
abbrev pub turn_of : Bor Call × Bor Reply → Call × Reply
turn_of turn = (turn.0.now, turn.1.now)

-- the line of an outcome for a call with its reply
abbrev pub turn_text : Call × Reply → List ℕ
turn_text turn = line (reply_text turn.0 turn.1)

-- a space and the number of a byte
abbrev pub byte_text : ℕ → List ℕ
byte_text byte = codes " " ++ decimal byte

-- the head of a reply and the numbers of its bytes up to a place
abbrev pub reply_front : Call → Reply → List ℕ → ℕ → List ℕ
reply_front call reply bytes i = head_text call reply ++ bytes_text (take i bytes)

-- the numbers up to the next place are those up to a place and the one there
pub reply_more : (call : Call) (reply : Reply) (bytes : List ℕ) (i : ℕ) → i < length bytes
    → reply_front call reply bytes (i + 1) ≡ reply_front call reply bytes i ++ byte_text (get_or bytes i 0)
reply_more call reply bytes i within = rw (texts_more byte_text bytes i 0 within) (simp append_assoc)

-- the line of a reply is its head with the numbers up to a place, the one there, and the later ones with a line feed
pub reply_at : (call : Call) (reply : Reply) (bytes : List ℕ) (i : ℕ) → bytes ≡ bytes_in reply → i < length bytes
    → line (reply_text call reply) ≡ reply_front call reply bytes i ++
    (byte_text (get_or bytes i 0) ++ (bytes_text (drop (i + 1) bytes) ++ codes "\n"))
reply_at call reply bytes i same within =
    rw (← same, texts_at byte_text bytes i 0 within) (simp append_assoc)

-- the line of a reply is its head, the numbers of all its bytes, and a line feed
pub reply_whole : (call : Call) (reply : Reply) (bytes : List ℕ) (i : ℕ) → bytes ≡ bytes_in reply → length bytes ≤ i
    → line (reply_text call reply) ≡ reply_front call reply bytes i ++ codes "\n"
reply_whole call reply bytes i same all = rw (← same, take_all i bytes all)

-- there are more bytes than any number
longer : (n : ℕ) → (bytes : List ℕ) × (n < length bytes)
longer n = (replicate (n + 1) 0, omega (arith, length-replicate {A = ℕ} (n + 1) 0))

-- bytes that aren't read have an outcome
pub unread : (given : Option (List ℕ)) (failed : Type 0) (error : ReplayError) → IsReadError given failed error
    → IsOutcomeOfReader given failed (Err error)
unread given failed (Parse (BadCommand number)) is = absurd is
unread None failed (Parse OutOfMemory) is = ([], tt, tt)
unread (Some bytes) failed (Parse OutOfMemory) is = (bytes, refl, tt)
unread None failed TooLong is = let bytes = longer script_limit in (bytes.0, tt, bytes.1)
unread (Some bytes) failed TooLong is = (bytes, refl, is)
unread given failed ReadFault is = is
