-- The bytes of what is said.
use Rattle.std.specs.Prelude.{◌≡◌, ℕ, List, Result, Ok, Err, Vec}
use Rattle.std.specs.declared.alloc.AllocError.{AllocError}
use Rattle.std.specs.declared.alloc.Global.{Global}
use Rattle.live_replies.specs.declared.reply.Said.{Said}
use Rattle.live_replies.specs.declared.reply.Said.TheVariants.{Text, Done, Unreported, NoMemory, TooLong}
use Rattle.live_replies.specs.Texts.{no_memory_line, ok_line, too_long_line, unreported_line}

-- the bytes of what is said
abbrev pub said_bytes : Said → List ℕ
said_bytes (Text text) = text.items
said_bytes Done = ok_line
said_bytes Unreported = unreported_line
said_bytes NoMemory = no_memory_line
said_bytes TooLong = too_long_line

-- the text is said, or that no memory is left for it
abbrev pub IsTextOrNoMemory : Result (Vec ℕ Global) AllocError → Said → Type 0
IsTextOrNoMemory (Ok text) said = said ≡ Text text
IsTextOrNoMemory (Err none) said = said ≡ NoMemory
