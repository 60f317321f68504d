-- The lines in the report of a replay for the opening, for each command and for the end of the script.
use Rattle.std.specs.Prelude.{ℕ, Bool, List, [], ◌++◌, codes, decimal, if◌then◌else◌}
use Rattle.std.specs.List.{flat_map}
use Rattle.report_text.specs.declared.refusal.Refusal.TheVariants.{Unfinished}
use Rattle.report_text.specs.declared.reply.Reply.{Reply}
use Rattle.report_text.specs.declared.reply.Reply.TheVariants.{Kept, Searched, Refused}
use Rattle.report_text.specs.declared.reply.LineReply.{LineReply}
use Rattle.report_text.specs.Lines.{line}
use Rattle.report_text.specs.Refusals.{refusal_text}

-- the number of connectors that are searched at the opening, if `count` asks for it
abbrev pub open_line : Bool → ℕ → List ℕ
open_line count searched = if count then line (codes "# open: searched " ++ decimal searched) else []

-- the line of a command: none if it searched nothing, the number of connectors that it searched if `count` asks for it, or its refusal
abbrev pub reply_text : Bool → ℕ → Reply → List ℕ
reply_text count number Kept = []
reply_text count number (Searched searched) =
    if count then line (codes "# line " ++ decimal number ++ codes ": searched " ++ decimal searched) else []
reply_text count number (Refused why) = line (codes "# line " ++ decimal number ++ codes ": " ++ refusal_text why)

abbrev pub reply_lines : Bool → List LineReply → List ℕ
reply_lines count rs = flat_map (λ r. reply_text count r.line r.reply) rs

-- the transaction that is still open at the end, if one is
abbrev pub end_line : Bool → List ℕ
end_line open_still = if open_still then line (codes "# end: " ++ refusal_text Unfinished) else []
