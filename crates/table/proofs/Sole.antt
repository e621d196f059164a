-- A link has one support and, where a tree fits, one finding.
use Rattle.std.proofs.Common.{◌≡◌, ℕ, Bool, T, Some, None, Option, sym, refl, ap, inl, inr}
use Rattle.price.specs.Kind.{Operations, Laws}
use Rattle.spanning.proofs.Subsets.{true_or}
use Rattle.table.specs.declared.verdicts.Finding.{Finding}
use Rattle.table.specs.declared.verdicts.Finding.TheVariants as finding
use Rattle.table.specs.Findings.{FindingIs, SupportIs, LastOf, FirstOf}
use Rattle.table.specs.Ranks.{free, before}
use Rattle.table.specs.Table.{Table, Lawful}
use Rattle.table.specs.Verdicts.{Fitting}
use Rattle.table.proofs.Graphs as graphs

module _ {K : Type 0} (o : Operations K) (laws : Laws o) (t : Table K) (lawful : Lawful o t) where
  never_both : (a b : ℕ) → T (free t a) → T (free t b) → T (before o t a b) → T (before o t b a) → ⊥
  never_both a b fa fb u v = (graphs.ranked o laws t lawful).strict a fa ((graphs.ranked o laws t lawful).transitive a b a fa fb fa u v)

  module _ (X : ℕ → Bool) (e : ℕ) where
    one_last : (l m : ℕ) → LastOf o t X e l → LastOf o t X e m → l ≡ m
    one_last l m p q = elim (q.last l p.on_path) [
      | inl w ↦ w
      | inr u ↦ elim (p.last m q.on_path) [ inl w ↦ sym w | inr v ↦ absurd (never_both l m p.on_path.0 q.on_path.0 u v) ]
    ]

    one_first : (l m : ℕ) → FirstOf o t X e l → FirstOf o t X e m → l ≡ m
    one_first l m p q = elim (q.first l p.rejoins) [
      | inl w ↦ w
      | inr u ↦ elim (p.first m q.rejoins) [ inl w ↦ sym w | inr v ↦ absurd (never_both l m p.rejoins.0 q.rejoins.0 v u) ]
    ]

    some_none : (l : ℕ) → SupportIs o t X e (Some l) → SupportIs o t X e None → ⊥
    some_none l p q = elim (true_or (X e)) [
      | inl own ↦ (q p.0).1 own l (p.2 own).rejoins
      | inr out ↦ (q p.0).0 out l (p.1 out).on_path
    ]

    pub one_support : (r s : Option ℕ) → SupportIs o t X e r → SupportIs o t X e s → r ≡ s
    one_support None None p q = refl
    one_support None (Some m) p q = absurd (some_none m q p)
    one_support (Some l) None p q = absurd (some_none l p q)
    one_support (Some l) (Some m) p q = ap Some (elim (true_or (X e)) [
      | inl own ↦ one_first l m (p.2 own) (q.2 own)
      | inr out ↦ one_last l m (p.1 out) (q.1 out)
    ])

  pub one_finding : (budget : K) (e : ℕ) (X : ℕ → Bool) → Fitting o t budget X → (f h : Finding) → FindingIs o t budget e f → FindingIs o t budget e h → f ≡ h
  one_finding budget e X fit finding.Out finding.Out p q = refl
  one_finding budget e X fit finding.Out finding.Open p q = absurd (p q.0.0 q.0.1 q.0.2)
  one_finding budget e X fit finding.Out finding.Forced p q = absurd (p X fit (q X fit))
  one_finding budget e X fit finding.Open finding.Out p q = absurd (q p.0.0 p.0.1 p.0.2)
  one_finding budget e X fit finding.Open finding.Open p q = refl
  one_finding budget e X fit finding.Open finding.Forced p q = absurd (p.1.2 (q p.1.0 p.1.1))
  one_finding budget e X fit finding.Forced finding.Out p q = absurd (q X fit (p X fit))
  one_finding budget e X fit finding.Forced finding.Open p q = absurd (q.1.2 (p q.1.0 q.1.1))
  one_finding budget e X fit finding.Forced finding.Forced p q = refl
