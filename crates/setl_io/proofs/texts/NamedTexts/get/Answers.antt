use Rattle.std.proofs.Common.{◌≡◌, ◌∙◌, ℕ, Option, None, Some, Vec, Bor, refl, sym, ap}
use Rattle.std.specs.Option.{option_map, option_copied}
use Rattle.std.specs.FinMap as map
use Rattle.setl_io.proofs.TextMaps.{get-text_map}
use Rattle.setl_io.proofs.texts.NamedTexts.get.Goals as goal

-- what is behind a reference that may be there
behind : {Z : Type 0} (o : Option (Bor (Vec ℕ Z))) → option_map (λ text. text.now.items) o ≡ option_map (λ text. text.items) (option_copied o)
behind None = refl
behind (Some text) = refl

pub returns : goal.returns
returns c =
    behind c.get.result
    ∙ ap (option_map (λ text. text.items)) c.get.ensures.value
    ∙ sym (get-text_map c.self.inside.by_name c.args.name.now)
    ∙ ap (λ texts. map.get texts c.args.name.now) c.self.view_is
