use Rattle.wasmi_script.proofs.lines.+put_number.Given as goal

abbrev pub decreases-put_number : goal.decreases-put_number
decreases-put_number l = l.number
