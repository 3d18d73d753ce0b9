use Rattle.setl_top.proofs.Accepting.{is_accepted}
use Rattle.setl_top.proofs.advising.advised.Goals as goal

pub advice-requires : goal.advice-requires
advice-requires c = record { short = c.requires.program.parsed.short; accepted = is_accepted c.args.source.now c.args.tree.now c.requires.program; bare = c.requires.bare }
