use Rattle.std.proofs.Common.{ℕ, ◌<◌, sym, ap, ◌∙◌, inl, inr, arith}
use Rattle.forest.specs.Merges.{hang_of, join_count, root_after}
use Rattle.forest.proofs.MergeNext.{remembers_next, met_in_all}
use Rattle.forest.proofs.merges.Merges.join.Goals as goal

pub returns-then-self-a-clause-remembers : goal.returns-then-self-a-clause-remembers
returns-then-self-a-clause-remembers c = λ g told p q.
    let m = c.args.self.now in
    let R : ℕ → ℕ = root_after (hang_of m) (join_count m) in
    let done = c.hang.ensures in
    let la : g.first c.args.link < 1024 = omega arith in
    let lb : g.second c.args.link < 1024 = omega arith in
    remembers_next m c.hang.new.self c.root-a.result c.root-b.result c.args.link c.root-a.ensures.root done.hung done.others done.joins g told la lb
    (inl (ap R p ∙ sym c.root-a.ensures.value, ap R q ∙ sym c.root-b.ensures.value))

pub returns-else-self-a-clause-fresh : goal.returns-else-self-a-clause-fresh
returns-else-self-a-clause-fresh c = λ g told _ d.
    c.if-a-b.false (c.root-a.ensures.value ∙ met_in_all c.args.self.now g told c.args.first c.args.second (omega arith) (omega arith) d ∙ sym c.root-b.ensures.value)

pub returns-else-self-a-clause-remembers : goal.returns-else-self-a-clause-remembers
returns-else-self-a-clause-remembers c = λ g told p q.
    let m = c.args.self.now in
    let R : ℕ → ℕ = root_after (hang_of m) (join_count m) in
    let done = c.hang-else-self-a.ensures in
    let la : g.first c.args.link < 1024 = omega arith in
    let lb : g.second c.args.link < 1024 = omega arith in
    remembers_next m c.hang-else-self-a.new.self c.root-b.result c.root-a.result c.args.link c.root-b.ensures.root done.hung done.others done.joins g told la lb
    (inr (ap R p ∙ sym c.root-a.ensures.value, ap R q ∙ sym c.root-b.ensures.value))
