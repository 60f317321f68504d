-- Directions, turns and hands.
use Rattle.std.proofs.Common.{◌≡◌, ◌⊎◌, true, false, Some, inl, inr, refl}
use Rattle.plane_geom.specs.declared.point.Dir.{Dir}
use Rattle.plane_geom.specs.declared.point.Dir.TheVariants.{East, South, West, North}
use Rattle.plane_geom.specs.Along.{way_of, rising}
use Rattle.plane_geom.specs.Point.{opposite}
use Rattle.segment_order.specs.declared.side.Side.{Side}
use Rattle.segment_order.specs.declared.side.Side.TheVariants.{Left, Right}
use Rattle.segment_order.specs.Side.{turn_to, near_side}
use Rattle.segment_order.specs.Ray.{is_heading}
use Rattle.shared_paths.specs.Paths.{other_side}

pub back_again : (d : Dir) → opposite (opposite d) ≡ d
back_again East = refl
back_again South = refl
back_again West = refl
back_again North = refl

pub is_itself : (d : Dir) → is_heading d d ≡ true
is_itself East = refl
is_itself South = refl
is_itself West = refl
is_itself North = refl

pub is_no_return : (d : Dir) → is_heading d (opposite d) ≡ false
is_no_return East = refl
is_no_return South = refl
is_no_return West = refl
is_no_return North = refl

pub other_again : (side : Side) → other_side (other_side side) ≡ side
other_again Left = refl
other_again Right = refl

-- behind is the other hand near
pub near_behind : (d : Dir) → near_side (opposite d) ≡ other_side (near_side d)
near_behind East = refl
near_behind South = refl
near_behind West = refl
near_behind North = refl

-- of one way are a direction and the one back
pub one_way : (d e : Dir) → way_of d ≡ way_of e → (d ≡ e) ⊎ (d ≡ opposite e)
one_way East East w = inl refl
one_way East West w = inr refl
one_way South South w = inl refl
one_way South North w = inr refl
one_way West East w = inr refl
one_way West West w = inl refl
one_way North South w = inr refl
one_way North North w = inl refl
one_way d e w = cc

pub rising_of : (d : Dir) → (rising (way_of d) ≡ d) ⊎ (rising (way_of d) ≡ opposite d)
rising_of East = inl refl
rising_of South = inl refl
rising_of West = inr refl
rising_of North = inr refl

-- the direction after a turn to the hand
abbrev pub turned : Dir → Side → Dir
turned East Left = North
turned East Right = South
turned South Left = East
turned South Right = West
turned West Left = South
turned West Right = North
turned North Left = West
turned North Right = East

pub turned_so : (d e : Dir) (side : Side) → turn_to d e ≡ Some side → e ≡ turned d side
turned_so East South Right h = refl
turned_so East North Left h = refl
turned_so South East Left h = refl
turned_so South West Right h = refl
turned_so West South Left h = refl
turned_so West North Right h = refl
turned_so North East Right h = refl
turned_so North West Left h = refl
turned_so d e side h = cc

-- one who comes back turns to the other hand there
pub turns_back : (d : Dir) (side : Side) → turn_to (opposite (turned d side)) (opposite d) ≡ Some (other_side side)
turns_back East Left = refl
turns_back East Right = refl
turns_back South Left = refl
turns_back South Right = refl
turns_back West Left = refl
turns_back West Right = refl
turns_back North Left = refl
turns_back North Right = refl

pub turns_so : (d : Dir) (side : Side) → turn_to d (turned d side) ≡ Some side
turns_so East Left = refl
turns_so East Right = refl
turns_so South Left = refl
turns_so South Right = refl
turns_so West Left = refl
turns_so West Right = refl
turns_so North Left = refl
turns_so North Right = refl

pub way_back : (d : Dir) → way_of (opposite d) ≡ way_of d
way_back East = refl
way_back South = refl
way_back West = refl
way_back North = refl
