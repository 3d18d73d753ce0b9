use Rattle.setl_image_format.proofs.Exact.{numbers_are_exact, texts_are_exact}
use Rattle.setl_image_format.proofs.numbers_and_texts_are_exact.Goals as goal

pub returns-clause-numbers : goal.returns-clause-numbers
returns-clause-numbers c = numbers_are_exact

pub returns-clause-texts : goal.returns-clause-texts
returns-clause-texts c = texts_are_exact
