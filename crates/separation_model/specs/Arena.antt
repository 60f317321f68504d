-- The caller's arena, as an allocator of lists names it.
use Rattle.std.specs.Borrow.{Bor}
use Rattle.std.specs.declared.alloc.Global.{Global}
use Rattle.std.specs.contracts.impls.GlobalAllocator.TheImpl.{ghosts}
use Rattle.bumpalo.specs.declared.bump.Bump.{Bump}

-- a borrow of an arena
abbrev pub Arena : Type 0
Arena = Bor (Bump Global ghosts)
