use Rattle.std.proofs.Common.{◌∙◌, ap, string_bytes}
use Rattle.std.specs.FinMap as map
use Rattle.std.proofs.lemmas.Map.Text.{hash_map_updates_text}
use Rattle.setl_io.proofs.TextMaps.{text_map-updates}
use Rattle.setl_io.proofs.texts.NamedTexts.insert.Goals as goal

pub returns-clause-ok : goal.returns-clause-ok
returns-clause-ok c =
    let old = c.self.inside.by_name in
    let new = c.insert.new.self in
    let name = string_bytes c.args.name in
    text_map-updates old new name c.args.text (hash_map_updates_text name old new _ c.in_ok-insert.ensures.updates)
    ∙ ap (λ texts. map.insert texts name c.args.text.items) c.self.view_is
