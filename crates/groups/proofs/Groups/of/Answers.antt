use Rattle.std.proofs.Common.{◌≡◌, ℕ, Some, None, Option, get_or, Bor, unwrap_or, refl, ◌∙◌, ap, arith}
use Rattle.std.specs.Option.{option_copied, option_flatten, option_map}
use Rattle.groups.specs.Chains.{items_from}
use Rattle.groups.proofs.ChainItems.{group_in_memory}
use Rattle.groups.proofs.Groups.of.Goals as goal

-- no place reads as no item
no_place : (r : Option (Bor (Option ℕ))) → option_flatten (option_copied r) ≡ unwrap_or (option_map (λ x. x.now) r) None
no_place None = refl
no_place (Some r) = refl

pub returns : goal.returns
returns g c =
    let head : c.flatten.result ≡ get_or c.self.inside.heads c.args.key None =
    c.flatten.ensures ∙ ap option_flatten c.copied.ensures ∙ no_place c.get.result ∙ c.get.ensures.lookup.4 (omega arith) None in
    rw (← c.self.view_is, group_in_memory c.self.inside.nexts c.self.inside.heads c.args.key) (ap (items_from c.self.inside.nexts) head)
