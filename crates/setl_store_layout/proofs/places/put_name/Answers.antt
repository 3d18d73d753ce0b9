use Rattle.std.proofs.Common.{◌∙◌}
use Rattle.setl_store_layout.proofs.Finding.{put}
use Rattle.setl_store_layout.proofs.places.put_name.Goals as goal

pub returns : goal.returns
returns c =
    put c.args.table.now c.insert.new.self c.in_ok-key.key c.args.name.now c.args.at c.in_ok-place.place (c.in_ok-key.ensures.items ∙ c.bytes.ensures.value) c.in_ok-place.ensures c.in_ok-insert.ensures.entries
