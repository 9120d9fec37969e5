use Rattle.bit_inputs.proofs.packed.words_of.Given as goal

abbrev pub invariant-loop-w : goal.invariant-loop-w
invariant-loop-w l = Unit {0}
