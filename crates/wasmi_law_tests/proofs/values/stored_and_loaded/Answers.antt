use Rattle.std.proofs.Common.{◌≡◌, ◌∙◌, ℕ, ◌%◌, ◌^◌, Ok, ap, arith}
use Rattle.wasmi_law_tests.proofs.values.stored_and_loaded.Goals as goal

pub returns : goal.returns
returns c =
    let value : ℕ = c.args.value in
    let whole : value % 2 ^ 32 % 2 ^ 32 ≡ value = omega (arith, c.ranges.value.fits) in
    let loaded_again : c.load_at.result ≡ Ok value =
    c.load_at.ensures.value ∙ c.stored_number_is_loaded.ensures.natural 4
    (value % 2 ^ 32) c.args.address c.args.memory.now c.store_at.new.memory (λ n. n) c.in_ok-store_at.ensures
    ∙ ap Ok whole in
    record {
      loaded = rw loaded_again;
      outside = rw loaded_again (c.stored_number_is_loaded.ensures.outside 4 (value % 2 ^ 32) c.args.address
          c.args.memory.now c.store_at.new.memory c.in_ok-store_at.ensures);
    }
