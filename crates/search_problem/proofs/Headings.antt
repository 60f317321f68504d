-- The four directions are all there are.
use Rattle.std.proofs.Common.{◌≡◌, refl}
use Rattle.plane_geom.specs.declared.point.Dir.{Dir}
use Rattle.plane_geom.specs.declared.point.Dir.TheVariants.{East, South, West, North}

pub by_heading : (d : Dir) (P : Type 0) → (d ≡ East → P) → (d ≡ South → P) → (d ≡ West → P) → (d ≡ North → P) → P
by_heading East P e s w n = e refl
by_heading South P e s w n = s refl
by_heading West P e s w n = w refl
by_heading North P e s w n = n refl
