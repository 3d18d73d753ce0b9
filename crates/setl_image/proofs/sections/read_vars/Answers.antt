use Rattle.std.proofs.Common.{subst}
use Rattle.setl_image_codec.specs.Codec.{pair}
use Rattle.setl_image_codec.specs.Given.{Gives}
use Rattle.setl_image_codec.specs.Numbers.{listed}
use Rattle.setl_image_codec.specs.Texts.{name}
use Rattle.setl_image_format.specs.ModeCodec.{mode}
use Rattle.setl_image.specs.Views.{modes_of, named_of}
use Rattle.std.proofs.Common.{map}
use Rattle.setl_image.proofs.sections.read_vars.Goals as goal

pub returns : goal.returns
returns c = subst (λ bs. Gives (λ x. (map named_of x.0, x.1.now)) c.read_list.result ((listed (pair name (mode (modes_of bs)))).read c.args.bytes.now)) c.as_slice.ensures c.read_list.ensures
