use Rattle.std.proofs.Common.{length, refl}
use Rattle.std.proofs.lemmas.Option.{slice_get_read}
use Rattle.setl_token.proofs.Order.{token_formed, token_within}
use Rattle.setl_token.proofs.TokenList.at.Goals as goal

pub returns-clause-some : goal.returns-clause-some
returns-clause-some c =
    let l = c.self.inside in
    let at = slice_get_read l.tokens.items (length l.tokens.items) c.args.i c.index.result.now refl (rw (← c.self.view_is) at c.requires) c.index.ensures in
    (token_within l.source.items l.tokens.items c.self.invariant.spelled c.args.i c.index.result.now at).0

pub returns-clause-within : goal.returns-clause-within
returns-clause-within c =
    let l = c.self.inside in
    let at = slice_get_read l.tokens.items (length l.tokens.items) c.args.i c.index.result.now refl (rw (← c.self.view_is) at c.requires) c.index.ensures in
    rw (← c.self.view_is) (token_within l.source.items l.tokens.items c.self.invariant.spelled c.args.i c.index.result.now at).1

pub returns-clause-formed : goal.returns-clause-formed
returns-clause-formed c =
    let l = c.self.inside in
    let at = slice_get_read l.tokens.items (length l.tokens.items) c.args.i c.index.result.now refl (rw (← c.self.view_is) at c.requires) c.index.ensures in
    rw (← c.self.view_is) (token_formed l.source.items l.tokens.items c.self.invariant.spelled c.args.i c.index.result.now at)
