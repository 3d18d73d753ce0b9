use Rattle.std.proofs.Common.{◌≡◌, OnOk, subst}
use Rattle.setl_image.specs.Views.{modes_of}
use Rattle.setl_image.proofs.ModeSteps.{named_written}
use Rattle.setl_image.proofs.sections.NamedCoderCoder.push.Goals as goal

pub returns : goal.returns
returns c =
    subst (λ t. OnOk c.push_mode.result (c.push_mode.new.into.items ≡ t))
    (named_written (modes_of c.args.self.now.bases.now) c.args.x.now c.args.into.now.items c.push_text.new.into.items c.requires.1 c.in_ok-push_text.ensures)
    c.push_mode.ensures
