use Rattle.std.proofs.Common.{◌≡◌, Some, sym, ap, subst, ◌∙◌}
use Rattle.std.specs.Ordering.{nat_cmp}
use Rattle.std.specs.Option.{option_copied}
use Rattle.std.specs.List.{AllByRecursion}
use Rattle.std.specs.Map.{lookup}
use Rattle.std.specs.BTreeMap.{is_at}
use Rattle.id_rules.proofs.Lists.{all_weaker}
use Rattle.id_list.proofs.Places.{lookup-find, each_found}
use Rattle.id_list.specs.Entries.{entry_at}
use Rattle.id_list.proofs.list.IdList.at.Goals as goal

pub returns-clause-value : goal.returns-clause-value
returns-clause-value g c = c.get.ensures.value ∙ lookup-find c.self.inside.entries.entries c.args.place ∙ ap (λ es. entry_at es c.args.place) c.self.view_is

pub returns-clause-each : goal.returns-clause-each
returns-clause-each g c =
    subst (AllByRecursion (λ e. e.0 ≡ c.args.place → option_copied c.get.result ≡ Some e.1)) c.self.view_is
    (all_weaker (λ e. lookup (is_at (nat_cmp e.0)) c.self.inside.entries.entries ≡ Some e.1) (λ e. e.0 ≡ c.args.place → option_copied c.get.result ≡ Some e.1)
    (λ e found here. c.get.ensures.value ∙ ap (λ z. lookup (is_at (nat_cmp z)) c.self.inside.entries.entries) (sym here) ∙ found) c.self.inside.entries.entries (each_found c.self.inside.entries.entries c.self.invariant.rising))
