-- Which texts are URLs of files on this host, and the bytes of their paths.
use Rattle.std.specs.Prelude.{not, List, ℕ, codes, bytes_eq, None, Result, Ok, Err, if◌then◌else◌}
use Rattle.percent_encoding.specs.Percent.{percent_decode}
use Rattle.url.specs.Parts.{Parts, has_host}
use Rattle.url.specs.Parser.{Parsed, parse_url}
use Rattle.url.specs.declared.error.ParseError.{ParseError}
use Rattle.url.specs.declared.error.ParseError.TheVariants.{OutOfMemory, Overflow}
use Rattle.file_uri.specs.declared.faults.UriFault.{UriFault}
use Rattle.file_uri.specs.declared.faults.UriFault.TheVariants.{NotAUri, NotFile, HasHost, Memory}

-- the URL, if its scheme is `file` and its host is empty or missing (RFC 8089, section 2)
abbrev pub on_this_host : Parts → Result Parts UriFault
on_this_host url =
    if not (bytes_eq url.scheme (codes "file")) then Err NotFile
    else (if has_host url then Err HasHost else Ok url)

-- what the URL Standard's parser gave, read as the URL of a file on this host
abbrev pub local_file : Parsed Parts → Result Parts UriFault
local_file (Ok url) = on_this_host url
local_file (Err error) = Err NotAUri

-- how an error of the parser's call counts, which may also lack room for a text that is a URL
abbrev pub refusal_of : ParseError → UriFault
refusal_of OutOfMemory = Memory
refusal_of Overflow = Memory
refusal_of _ = NotAUri

-- what the parser's call answered, read as the URL of a file on this host
abbrev pub local_answer : Parsed Parts → Result Parts UriFault
local_answer (Ok url) = on_this_host url
local_answer (Err error) = Err (refusal_of error)

-- the URL of a file that a text is, by the URL Standard's parser
abbrev pub file_url : List ℕ → Result Parts UriFault
file_url uri = local_file (parse_url None uri)

-- the bytes that a URL's path stands for (URL Standard, section 1.3)
abbrev pub decoded_path : Parts → List ℕ
decoded_path url = percent_decode url.path
