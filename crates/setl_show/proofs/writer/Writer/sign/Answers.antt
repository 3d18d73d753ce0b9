use Rattle.std.proofs.Common.{pos, [], ◌∙◌, sym}
use Rattle.setl_show.proofs.Spelled.{spelled}
use Rattle.setl_show.proofs.writer.Writer.sign.Goals as goal

pub returns : goal.returns
returns c = c.token.ensures [] (pos 0) (spelled c.args.kind c.requires ∙ sym c.spelling.ensures ∙ sym c.as_bytes.ensures.value)
