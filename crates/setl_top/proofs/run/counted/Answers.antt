use Rattle.std.proofs.Common.{◌≡◌, ◌∙◌, [], map, ap, if◌then◌else◌}
use Rattle.setl_program.specs.code.Plain.{plain_declared}
use Rattle.setl_top.proofs.Declaring.{map_counted}
use Rattle.setl_top.proofs.run.counted.Goals as goal

pub returns : goal.returns
returns c = λ r is.
    let based = c.args.asked.based in
    let given : map plain_declared c.counted.result.now ≡ (if based then map plain_declared c.args.ready.now.declared else []) = rw (c.counted.ensures, c.as_slice.ensures) (map_counted plain_declared based c.args.ready.now.declared) in
    given ∙ ap (λ ds. if based then ds else []) is
