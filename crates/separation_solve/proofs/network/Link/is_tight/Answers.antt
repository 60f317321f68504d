-- The test of the code is the condition, in whole numbers.
use Rattle.std.proofs.Common.{◌≡◌, ◌<◌, ℕ, pos, List, All, length, get_or, FitsSigned, ◌∙◌, w64, to_z-of_z}
use mir.Syntax.{w128}
use Rattle.std.proofs.lemmas.List.{get_or_default}
use Rattle.std.proofs.lemmas.List.Elements.{All-get_or}
use Rattle.separation_solve.specs.declared.fraction.Fraction.{Fraction}
use Rattle.separation_solve.specs.Network.{IsSpot, place_at}
use Rattle.separation_solve.proofs.LightFractions.Spots.{cast_is, gap_wide, den_wide, gap_narrow, apart_fits, gap_fits, num_fits, tight_test}
use Rattle.separation_solve.proofs.network.Link.is_tight.Goals as goal

-- a place as it is read
abbrev read : List Fraction → ℕ → Fraction
read places i = get_or places i (record { num = pos 0; den = 0 })

-- of a node it is its spot
record IsNodeRead (places : List Fraction) (i : ℕ) : Type 0 where
  is : read places i ≡ place_at places i
  spot : IsSpot (read places i)

node_read : (places : List Fraction) (i : ℕ) → All IsSpot places → i < length places → IsNodeRead places i
node_read places i spots h = record { is = get_or_default places i _ _ h; spot = All-get_or IsSpot places i _ h spots }

pub overflow_sub-result : goal.overflow_sub-result
overflow_sub-result c =
    let places = c.args.places.now in
    let from = node_read places c.args.self.from c.requires.spots c.requires.link.from in
    let to = node_read places c.args.self.to c.requires.spots c.requires.link.to in
    rw (to_z-of_z (num_fits _ from.spot), to_z-of_z (num_fits _ to.spot)) (apart_fits _ _ from.spot to.spot)

pub overflow_mul-result : goal.overflow_mul-result
overflow_mul-result c =
    let places = c.args.places.now in
    let from = node_read places c.args.self.from c.requires.spots c.requires.link.from in
    let f : FitsSigned w64 c.args.self.gap = gap_narrow c.args.self.gap c.requires.link.gap in
    let wide = cast_is w128 _ _ (c.from.ensures ∙ to_z-of_z f) (gap_wide c.args.self.gap c.requires.link.gap) in
    let den = cast_is w128 _ _ c.from-then-from-to.ensures (den_wide _ from.spot) in
    rw (wide, den) (gap_fits c.args.self.gap _ c.requires.link.gap from.spot)

pub returns-then-from-to : goal.returns-then-from-to
returns-then-from-to c =
    let places = c.args.places.now in
    let from = node_read places c.args.self.from c.requires.spots c.requires.link.from in
    let to = node_read places c.args.self.to c.requires.spots c.requires.link.to in
    let f : FitsSigned w64 c.args.self.gap = gap_narrow c.args.self.gap c.requires.link.gap in
    let wide = cast_is w128 _ _ (c.from.ensures ∙ to_z-of_z f) (gap_wide c.args.self.gap c.requires.link.gap) in
    let den = cast_is w128 _ _ c.from-then-from-to.ensures (den_wide _ from.spot) in
    rw (to_z-of_z (num_fits _ from.spot), to_z-of_z (num_fits _ to.spot), wide, den) (tight_test places c.args.self _ _ from.is to.is from.spot to.spot c.requires.link.gap c.if-from-to.true)
