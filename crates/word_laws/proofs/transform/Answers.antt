use Rattle.word_laws.proofs.Butterflies.{encode_word}
use Rattle.word_laws.proofs.transform.Goals as goal

pub returns : goal.returns
returns c = encode_word
