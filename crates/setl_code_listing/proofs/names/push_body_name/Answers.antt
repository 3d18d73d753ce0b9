use Rattle.std.proofs.Common.{◌≡◌, map, slice_get, Some, refl, sym, rules}
use Rattle.std.proofs.lemmas.List.{append-nil}
use Rattle.std.proofs.lemmas.Option.{slice_get_read}
use Rattle.setl_model_runs.specs.Variable.{Global}
use Rattle.setl_code_listing.proofs.Variables.{name_within, name_past}
use Rattle.setl_code_listing.proofs.names.push_body_name.Goals as goal

pub returns-then-n-bodies : goal.returns-then-n-bodies
returns-then-n-bodies c =
    let code = c.args.code.now in
    let b = c.index-bodies-n.result in
    let at : slice_get code.bodies c.args.n ≡ Some b = rw c.as_slice-bodies.ensures at (slice_get_read c.as_slice-bodies.result.now _ c.args.n b refl c.if-n-bodies.true c.index-bodies-n.is) in
    rw (name_within (map Global code.vars) 0 code.bodies c.args.n b at) (search rules)

pub returns-else-n-bodies : goal.returns-else-n-bodies
returns-else-n-bodies c =
    let code = c.args.code.now in
    let past = rw c.as_slice-bodies.ensures at c.if-n-bodies.false in
    rw (name_past (map Global code.vars) 0 code.bodies c.args.n past) (sym (append-nil _))
