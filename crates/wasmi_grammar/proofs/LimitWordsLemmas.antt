-- The words of limits: the limits, the page size, the memory type and the table type that words name, of each one at
-- most.
use Rattle.std.proofs.Common.{◌≡◌, ◌∙◌, ℕ, List, Option, Some, Result, refl, sym, ap}
use Rattle.wasmi_grammar.proofs.Common.{option_map, option_and_then, LineError, Accepts, decimal_value, WritesNumber, width_word, reference_word, named, named_is, one_named, accepts_same, limit_named, limit_is, Limits, WritesLimits, NamesType, memory_limits, NamesTableType, table_limits, MemoryTypeValue, page_log2, page_of_log2}
use Rattle.wasmi_store.specs.declared.memory.ty.PageSize.{PageSize}
use Rattle.wasmi_store.specs.declared.memory.ty.PageSize.TheVariants.{Byte, Wasm}
use Rattle.wasmi_types.specs.declared.value.RefType.{RefType}
use Rattle.wasmi_store.specs.Table.{TableTypeValue}
use Rattle.wasmi_store.specs.Memory as memory_type
use Rattle.wasmi_store.specs.Table as table_type
use Rattle.wasmi_types.specs.contracts.index_ty.IndexType as index
use Rattle.wasmi_types.specs.contracts.value.RefType as reference_type

-- the limits that three words write
pub limits_named : List ℕ → List ℕ → List ℕ → Option Limits
limits_named minimum maximum width =
    option_map (λ index. record { index = index; minimum = decimal_value minimum; maximum = limit_named maximum })
    (named index.enum tt width_word width)

-- three words that write limits give those limits
pub limits_are : (minimum maximum width : List ℕ) (limits : Limits) → WritesLimits minimum maximum width limits
    → limits_named minimum maximum width ≡ Some limits
unfolding limits_named
limits_are minimum maximum width limits w =
    rw (named_is index.enum tt width_word refl width limits.index w.width_text)
    (rw (← w.minimum_word.1, limit_is maximum limits.maximum w.maximum_word))

-- three words write one limits at most
one_limits : {minimum maximum width : List ℕ} {limits limits' : Limits} → WritesLimits minimum maximum width limits
    → WritesLimits minimum maximum width limits' → limits' ≡ limits
one_limits {minimum} {maximum} {width} {limits} {limits'} writes writes' =
    cc (limits_are minimum maximum width limits writes, limits_are minimum maximum width limits' writes')

-- a memory type that has the settings which words write is the one that they name
pub memory_read : {min max width : List ℕ} {limits : Limits} {power : ℕ} {Many : Type 0} (log2 : List ℕ)
    (result : Result MemoryTypeValue LineError) → Many → WritesLimits min max width limits → WritesNumber 8 log2 power
    → Accepts result (λ ty. (memory_limits ty ≡ limits) × (page_log2 ty.page ≡ power) × memory_type.IsValid ty)
    → Accepts result (λ ty. Many × NamesType min max log2 width ty)
memory_read {min} {max} {width} log2 result many written writes_log2 =
    accepts_same result _ _ (λ ty has. (
      many,
      record {
        limits_words = rw has.0 written;
        log2_word = rw has.1 writes_log2;
        valid = has.2;
      },
    )) (λ ty w.
    let names = w.1 in
    (one_limits written names.limits_words, names.log2_word.1 ∙ sym writes_log2.1, names.valid))

-- the power of two of a page size is that of no other page size
page_is : (log2 : ℕ) (page : PageSize) → page_log2 page ≡ log2 → page_of_log2 log2 ≡ Some page
page_is log2 Byte e = ap page_of_log2 (sym e)
page_is log2 Wasm e = ap page_of_log2 (sym e)

-- the memory type of these limits and this page size
abbrev memory_of : Limits → PageSize → MemoryTypeValue
memory_of limits page = record { index = limits.index; page = page; minimum = limits.minimum; maximum = limits.maximum }

-- the memory type that four words name
pub memory_named : List ℕ → List ℕ → List ℕ → List ℕ → Option MemoryTypeValue
memory_named minimum maximum log2 width =
    option_and_then (λ limits. option_map (memory_of limits) (page_of_log2 (decimal_value log2)))
    (limits_named minimum maximum width)

-- four words that name a memory type give that memory type
pub memory_is : (minimum maximum log2 width : List ℕ) (ty : MemoryTypeValue) → NamesType minimum maximum log2 width ty
    → memory_named minimum maximum log2 width ≡ Some ty
unfolding memory_named
memory_is minimum maximum log2 width ty w = λ i.
    option_and_then (λ limits. option_map (memory_of limits) (page_is (decimal_value log2) ty.page w.log2_word.1 i))
    (limits_are minimum maximum width (memory_limits ty) w.limits_words i)

-- a table type that has the limits which words write is the one that they name
pub table_read : {word min max width : List ℕ} {limits : Limits} {Many : Type 0} (element : RefType)
    (result : Result TableTypeValue LineError) → Many → word ≡ reference_word element
    → WritesLimits min max width limits
    → Accepts result (λ ty. (table_limits ty ≡ limits) × (ty.element ≡ element) × table_type.IsValid ty)
    → Accepts result (λ ty. Many × NamesTableType word min max width ty)
table_read {word} {min} {max} {width} element result many writes_element written =
    accepts_same result _ _ (λ ty has. (
      many,
      record {
        element_text = writes_element ∙ ap reference_word (sym has.1);
        limits_words = rw has.0 written;
        valid = has.2;
      },
    )) (λ ty w.
    let names = w.1 in (
      one_limits written names.limits_words,
      one_named reference_type.enum tt reference_word refl ty.element element
          (sym names.element_text ∙ writes_element),
      names.valid,
    ))

-- the table type of these limits and this type of elements
abbrev table_of : Limits → RefType → TableTypeValue
table_of limits element =
    record { index = limits.index; element = element; minimum = limits.minimum; maximum = limits.maximum }

-- the table type that four words name
pub table_named : List ℕ → List ℕ → List ℕ → List ℕ → Option TableTypeValue
table_named element minimum maximum width =
    option_and_then (λ limits. option_map (table_of limits) (named reference_type.enum tt reference_word element))
    (limits_named minimum maximum width)

-- four words that name a table type give that table type
pub table_is : (element minimum maximum width : List ℕ) (ty : TableTypeValue)
    → NamesTableType element minimum maximum width ty → table_named element minimum maximum width ≡ Some ty
unfolding table_named
table_is element minimum maximum width ty w = λ i. option_and_then (λ limits. option_map (table_of limits)
    (named_is reference_type.enum tt reference_word refl element ty.element w.element_text i))
    (limits_are minimum maximum width (table_limits ty) w.limits_words i)
