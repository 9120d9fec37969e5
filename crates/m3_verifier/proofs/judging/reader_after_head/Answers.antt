use Rattle.std.proofs.Common.{◌∙◌, ap, length}
use Rattle.transcript.specs.Transcript.{after_absorb}
use Rattle.m3_verifier.proofs.VerdictSteps.{begun_is}
use Rattle.m3_verifier.proofs.judging.reader_after_head.Goals as goal

pub returns-in-Ok-clause-reader : goal.returns-in-Ok-clause-reader
returns-in-Ok-clause-reader g c =
    begun_is c.args.walk (length c.args.shape.now.tables) c.args.rounds c.head_length.result c.args.bytes.now c.split_at.result.0.now c.split_at.result.1.now c.absorb.new.self c.in-Ok.reader
    c.head_length.ensures c.split_at.ensures.front c.split_at.ensures.back (c.absorb.ensures ∙ ap (λ t. after_absorb t 0 c.split_at.result.0.now) c.start-transcript.ensures) c.in-Ok.ensures
