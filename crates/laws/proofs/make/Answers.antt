use Rattle.laws.proofs.Chains.{did_as}
use Rattle.laws.specs.Outcomes.{said_by}
use Rattle.session.specs.Worlds.{done_says}
use Rattle.std.proofs.Common.{◌≡◌, refl, rules}
use Rattle.laws.proofs.make.Goals as goal

pub returns-in-Open : goal.returns-in-Open
returns-in-Open g c =
    let e : said_by c.map.result ≡ done_says c.open.result = search rules in
    did_as c.in-Open.is e (c.open.ensures _ _)

pub returns-in-Close : goal.returns-in-Close
returns-in-Close g c =
    let e : said_by c.map-in-Close.result ≡ done_says c.close.result = search rules in
    did_as c.in-Close.is e (c.close.ensures _ _)

pub returns-in-Standing : goal.returns-in-Standing
returns-in-Standing g c = did_as c.in-Standing.is refl (c.standing.ensures.told _)
