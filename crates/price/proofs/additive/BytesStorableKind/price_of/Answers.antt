use Rattle.std.proofs.Common.{rules}
use Rattle.price.specs.Forms.{Four}
use Rattle.price.specs.Additive.{operations, forms}
use Rattle.price.specs.FourBytes.{told}
use Rattle.price.specs.Sums.{storable}
use Rattle.price.proofs.additive.BytesStorableKind.price_of.Goals as goal

pub returns-clause-sole : goal.returns-clause-sole
returns-clause-sole c =
    let f : Four c.args.form = record { four = search rules; small = λ k. search rules } in
    told operations.price forms.price_form forms.price_of storable.prices c.args.form _ f (search rules)
