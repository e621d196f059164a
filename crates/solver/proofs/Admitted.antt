-- What is known once the entry has let a call pass.
use Rattle.std.proofs.Common.{◌≡◌, ℕ, ◌≤◌, Bool, true, false, cond, leb, Some, None, Ok, refl, arith}
use Rattle.std.proofs.lemmas.Bool.Decides.{nat_tests}
use Rattle.price.specs.Kind.{Operations}
use Rattle.table.specs.declared.refusals.PlanFault.TheVariants as plan-fault
use Rattle.solver.specs.Settling.{admit_refusal, unless}

by_tests : (a b : Bool) (x : Unit {0}) → unless {A = Unit {0}} (cond a (cond b None (Some plan-fault.Budget)) (Some plan-fault.ShortBuffer)) tt ≡ Ok x → (a ≡ true) × (b ≡ true)
by_tests true true x e = (refl, refl)
by_tests true false x e = cc
by_tests false b x e = cc

room_from : (links places : ℕ) → leb links places ≡ true → links ≤ places
room_from links places e = grind (arith, nat_tests)

pub admitted : {K : Type 0} (o : Operations K) (links places : ℕ) (budget : K) (x : Unit {0}) → unless {A = Unit {0}} (admit_refusal o links places budget) tt ≡ Ok x → (links ≤ places) × (o.budget budget ≡ true)
admitted o links places budget x e = let tests = by_tests (leb links places) (o.budget budget) x e in (room_from links places tests.0, tests.1)
