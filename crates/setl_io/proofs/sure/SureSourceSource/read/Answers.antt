use Rattle.std.proofs.Common.{◌<◌, ◌∙◌, length, sym, rules, arith}
use Rattle.setl_io.proofs.Given.{given_front}
use Rattle.setl_io.proofs.sure.SureSourceSource.read.Goals as goal

pub returns-clause-bytes : goal.returns-clause-bytes
returns-clause-bytes c =
    let some : 0 < length c.left-rest.result.now = search rules in
    let front = rw (c.left-rest.ensures, c.deref-2.ensures.value) at c.filled-count.ensures.front in
    (omega arith, λ room. omega arith, sym c.self.view_is ∙ given_front c.self.inside.at c.filled-count.result c.self.inside.bytes.items c.filled-count.new.into front)
