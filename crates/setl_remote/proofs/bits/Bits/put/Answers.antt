use Rattle.std.proofs.Common.{◌∙◌, ap, if◌then◌else◌}
use Rattle.std.specs.FinSet as set
use Rattle.std.proofs.lemmas.Result.{on_ok_weaker}
use Rattle.setl_remote.proofs.Members.{written}
use Rattle.setl_remote.proofs.bits.Bits.put.Goals as goal

pub returns-clause-ok : goal.returns-clause-ok
returns-clause-ok c =
    on_ok_weaker c.write.result (λ writes.
    written c.args.block c.args.on c.self.inside.words.value.items _ writes
    ∙ ap (λ s. if c.args.on then set.insert s c.args.block else set.remove s c.args.block) c.self.view_is) c.write.ensures.ok
