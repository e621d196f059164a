use Rattle.std.proofs.Common.{get_or, None, rules}
use Rattle.spanning.specs.Sets.{held}
use Rattle.solver.specs.Sifting.{swap_for}
use Rattle.solver.proofs.Arrays.{made_each}
use Rattle.solver.proofs.solving.Solution.swaps.Goals as goal

pub returns : goal.returns
returns c = λ e l. made_each _ _ (λ k. swap_for (held c.args.self.now.growth.tree k) k (get_or c.args.supports.now k None)) 2048 (λ x y q w called. search rules) _ c.from_fn.ensures.items e None l
