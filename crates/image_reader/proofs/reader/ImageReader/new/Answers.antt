use Rattle.image_reader.proofs.Example.{image_example}
use Rattle.image_reader.proofs.reader.ImageReader.new.Goals as goal

pub returns-clause-example : goal.returns-clause-example
returns-clause-example c = image_example
