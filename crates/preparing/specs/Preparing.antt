-- What the prepared table says of the jobs.
use Rattle.tables.specs.declared.Jobs.{Jobs}
use Rattle.tables.specs.declared.Prepared.{Prepared}
use Rattle.tables.specs.Tables.{count_of}
use Rattle.relations.specs.Relations.{ChainsOf, Related}
use Rattle.heads.specs.Heads.{HeadsOf}
use Rattle.weights.specs.Weights.{Weighted}
use Rattle.values.specs.Values.{Laned}

-- the longest chains, the heads, the relations and the weightings of the jobs
pub record Begun (t : Jobs) (prepared : Prepared) : Type 0 where
  pub chains : ChainsOf t prepared.tails (count_of t)
  pub heads : HeadsOf t prepared.heads (count_of t)
  pub related : Related t prepared.related
  pub weighted : Weighted t prepared.worth prepared.most

-- and the tables of the lanes
pub record Tabled (t : Jobs) (prepared : Prepared) : Type 0 where
  pub chains : ChainsOf t prepared.tails (count_of t)
  pub heads : HeadsOf t prepared.heads (count_of t)
  pub related : Related t prepared.related
  pub weighted : Weighted t prepared.worth prepared.most
  pub laned : Laned t prepared.lanes
