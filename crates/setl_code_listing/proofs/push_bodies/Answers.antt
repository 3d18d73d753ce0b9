use Rattle.std.proofs.Common.{◌≡◌, map, slice_get, Some, refl, add-one}
use Rattle.std.proofs.lemmas.Option.{slice_get_read}
use Rattle.setl_model_runs.specs.Variable.{Global}
use Rattle.setl_code_listing.specs.Parts.{bodies_of}
use Rattle.setl_code_listing.proofs.Bodies.{procedures_next}
use Rattle.setl_code_listing.proofs.push_bodies.Goals as goal

pub loop-n-preserved : goal.loop-n-preserved
loop-n-preserved c =
    let code = c.args.code.now in
    let bodies = c.as_slice-bodies.result.now in
    let n = c.loop-n.n in
    let b = c.index-bodies-n.result in
    let at : slice_get bodies n ≡ Some b = slice_get_read bodies _ n b refl c.loop-n-test.true c.index-bodies-n.is in
    procedures_next (bodies_of code) (map Global code.vars) bodies n _ b c.loop-n.into.items c.push_procedure.new.into.items _ (add-one n) at c.loop-n.invariant c.in_ok-push_procedure.ensures
