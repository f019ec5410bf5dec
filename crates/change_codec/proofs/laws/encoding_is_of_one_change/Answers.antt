use Rattle.byte_format.proofs.Lawful.{encoding_is_unique}
use Rattle.change_codec.specs.Encoding.{change_format}
use Rattle.change_codec.proofs.EncodingLaws.{change_lawful}
use Rattle.change_codec.proofs.laws.encoding_is_of_one_change.Goals as goal

pub returns : goal.returns
returns c = encoding_is_unique change_format change_lawful
