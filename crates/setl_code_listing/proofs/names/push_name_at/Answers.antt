use Rattle.std.proofs.Common.{◌≡◌, length, slice_get, Some, refl}
use Rattle.std.proofs.lemmas.Option.{slice_get_read}
use Rattle.setl_code.specs.Plain.{plain_name}
use Rattle.setl_code_listing.proofs.Variables.{variable_within, variable_past}
use Rattle.setl_code_listing.proofs.names.push_name_at.Goals as goal

pub returns-then-k-names : goal.returns-then-k-names
returns-then-k-names c =
    let names = c.args.names.now in
    let x = c.index-names-k.result in
    let at : slice_get names c.args.k ≡ Some x = slice_get_read names (length names) c.args.k x refl c.if-k-names.true c.index-names-k.is in
    rw (variable_within (plain_name 0) names c.args.k x at) c.push_name.ensures

pub returns-else-k-names : goal.returns-else-k-names
returns-else-k-names c = rw (variable_past (plain_name 0) c.args.names.now c.args.k c.if-k-names.false) c.push_missing.ensures
