use Rattle.std.proofs.Common.{◌∙◌}
use Rattle.setl_machine.proofs.ByFamily.{told_alone}
use Rattle.setl_machine.proofs.telling.quiet_telling.Goals as goal

pub alone_telling-requires-clause-alone : goal.alone_telling-requires-clause-alone
alone_telling-requires-clause-alone c = told_alone c.args.what.now (λ e. c.in_default.not-Variables (c.family_of.ensures ∙ e)) (λ e. c.in_default.not-Calls (c.family_of.ensures ∙ e)) c.requires.quiet
