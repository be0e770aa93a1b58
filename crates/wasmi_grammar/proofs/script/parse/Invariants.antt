use Rattle.std.proofs.Common.{◌≤◌, length, map}
use Rattle.wasmi_grammar.specs.Lines.{AreTaken, calls_of}
use Rattle.wasmi_grammar.proofs.script.parse.Given as goal

abbrev pub invariant-loop-index : goal.invariant-loop-index
invariant-loop-index l =
    (length (calls_of l.script) ≤ length l.yielded) × AreTaken (map (λ item. item.1.now) l.yielded) l.script
