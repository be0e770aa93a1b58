use Rattle.std.proofs.Common.{ap, refl}
use Rattle.wasmi_script.proofs.Common.{with_newline, line}
use Rattle.wasmi_script.proofs.PrintingLemmas.{printed, no_room, no_text}
use Rattle.wasmi_script.proofs.printing.Printer.print_line.Goals as goal

pub returns-in_err-make_room-clause-front : goal.returns-in_err-make_room-clause-front
returns-in_err-make_room-clause-front g c =
    no_room g.W.Write.contents c.from_residual.result (g.D.Display.output c.args.text) _ _ line
    c.in_err-make_room.ensures.front

pub returns-clause-ok : goal.returns-clause-ok
returns-clause-ok g c =
    let output = g.D.Display.output c.args.text in
    printed g.W.Write.contents c.writeln.result output (with_newline output) _ c.make_room.new.self _ line
    (λ bytes is. ap with_newline is) c.in_ok-make_room.ensures.ok refl c.writeln.ensures.writes

pub returns-clause-front : goal.returns-clause-front
returns-clause-front g c =
    no_text g.W.Write.contents c.writeln.result (g.D.Display.output c.args.text) _ c.make_room.new.self _ line
    c.in_ok-make_room.ensures.ok refl
