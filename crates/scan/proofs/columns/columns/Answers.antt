use Rattle.std.proofs.Common.{◌≡◌, refl, rules}
use Rattle.std.specs.List.{range_with_len}
use Rattle.std.proofs.lemmas.List.FromFn.{length-range_with_len, get_or-range_with_len}
use Rattle.card.proofs.Arrays.{made_map}
use Rattle.scan.specs.Columns.{column_at}
use Rattle.scan.proofs.columns.columns.Goals as goal

pub returns : goal.returns
returns g c = made_map _ (λ p. (p.0.now ≡ c.args.card.now) × (p.1.now ≡ c.args.first)) (λ n. column_at n c.args.card.now) (range_with_len c.args.first g.row.N) 0 (λ p i y q v l k. search (rules, get_or-range_with_len, length-range_with_len)) _ c.from_fn.result g.row.N (refl, refl) (length-range_with_len c.args.first g.row.N) c.from_fn.ensures.items
