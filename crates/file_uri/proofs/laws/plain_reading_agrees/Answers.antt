use Rattle.file_uri.proofs.PlainReading.{path_of-is_plain}
use Rattle.file_uri.proofs.laws.plain_reading_agrees.Goals as goal

pub returns : goal.returns
returns c = path_of-is_plain
