-- What sifting a table answers, and what it writes.
use Rattle.std.specs.Prelude.{◌≡◌, ℕ, Bool, cond, ◌&&◌, T, List, ◌++◌, drop, Some, None, Option, nat_le}
use Rattle.std.specs.Option.{option_map, option_or, unwrap_or}
use Rattle.price.specs.Kind.{Operations}
use Rattle.table.specs.declared.marks.Role.{Role}
use Rattle.table.specs.declared.marks.Role.TheVariants as role
use Rattle.table.specs.declared.refusals.PlanFault.{PlanFault}
use Rattle.table.specs.declared.refusals.PlanFault.TheVariants as plan-fault
use Rattle.table.specs.declared.verdicts.Finding.{Finding}
use Rattle.table.specs.declared.verdicts.Finding.TheVariants as finding
use Rattle.table.specs.declared.verdicts.Verdict.{Verdict}
use Rattle.table.specs.declared.verdicts.Verdict.TheVariants as verdict
use Rattle.table.specs.Findings.{finding_number, finding_of, support_of}
use Rattle.table.specs.Ranks.{link_count}
use Rattle.table.specs.Table.{Table}
use Rattle.table.specs.Verdicts.{verdict_of}
use Rattle.forest.specs.declared.networks.Network.{Network}
use Rattle.forest.specs.Growing.{free_of}
use Rattle.forest.specs.Paths.{LastFree}
use Rattle.forest.specs.Readings.{links_of}
use Rattle.forest.specs.Rooted.{Replaced}
use Rattle.ranking.specs.declared.totals.Swap.{Swap}
use Rattle.solver.specs.Settling.{listed}

-- 61 ring, 62 cut, 63 over
abbrev pub verdict_refusal : {K : Type 0} → Verdict K → Option PlanFault
verdict_refusal (verdict.Ring l) = Some plan-fault.Ring
verdict_refusal (verdict.Cut p) = Some plan-fault.Cut
verdict_refusal (verdict.Over c) = Some plan-fault.Over
verdict_refusal (verdict.Fits c) = None

-- 33 where either buffer has fewer places than there are links, then 46 where the budget is not admitted
abbrev pub entry_refusal : {K : Type 0} → Operations K → Table K → K → ℕ → ℕ → Option PlanFault
entry_refusal o t budget places others = cond (nat_le (link_count t) places && nat_le (link_count t) others) (cond (o.budget budget) None (Some plan-fault.Budget)) (Some plan-fault.ShortBuffer)

abbrev pub sift_refusal : {K : Type 0} → Operations K → Table K → K → ℕ → ℕ → Option PlanFault
sift_refusal o t budget places others = option_or (entry_refusal o t budget places others) (verdict_refusal (verdict_of o t budget))

-- a support as a number of 16 bits: 65,535 where there is none
abbrev pub support_number : Option ℕ → ℕ
support_number support = unwrap_or support 65535

-- what the buffers hold afterwards, past the links what they held
abbrev pub findings_written : {K : Type 0} → Operations K → Table K → K → List ℕ → List ℕ
findings_written o t budget out = listed (λ k. finding_number (finding_of o t budget k)) (link_count t) ++ drop (link_count t) out

abbrev pub supports_written : {K : Type 0} → Operations K → Table K → List ℕ → List ℕ
supports_written o t out = listed (λ k. support_number (support_of o t k)) (link_count t) ++ drop (link_count t) out

-- Means: the support of a link from what is told of it, its swap, and its finding.
abbrev pub chosen : Bool → Bool → Option ℕ → Option ℕ → Option ℕ
chosen free held first last = cond free (cond held first last) None

abbrev pub swap_for : Bool → ℕ → Option ℕ → Option Swap
swap_for held link support = option_map (λ other. cond held (record { gone = link; come = other }) (record { gone = other; come = link })) support

abbrev pub judged_link : Role → Bool → Option ℕ → Bool → Finding
judged_link role.Kept held support within = finding.Forced
judged_link role.Barred held support within = finding.Out
judged_link role.Free held None within = cond held finding.Forced finding.Out
judged_link role.Free held (Some l) within = cond within finding.Open (cond held finding.Forced finding.Out)

-- what is told of a link of a network with a tree X and its free links by rank
pub record SupportedBy (n : Network) (X : ℕ → Bool) (before : ℕ → ℕ → Bool) (order : List ℕ) (e : ℕ) (r : Option ℕ) : Type 0 where
  pub outside : T (free_of n e) → (T (X e) → ⊥) → LastFree (links_of n) (free_of n) before X ((links_of n).first e) ((links_of n).second e) r
  pub inside : T (free_of n e) → T (X e) → Replaced (links_of n) X order e r
  pub not_free : (T (free_of n e) → ⊥) → r ≡ None
