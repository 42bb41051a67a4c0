-- The addresses that a link goes to: those of the loopback, link-local and private ranges (RFC 1122, RFC 1918, RFC 3927, RFC
-- 4193, RFC 4291).
use Rattle.std.specs.Prelude.{◌⊎◌, [], ◌∷◌}
use Rattle.std.specs.declared.net.ip_addr.IpAddr.{IpAddr}
use Rattle.std.specs.declared.net.ipv4_addr.Ipv4Addr.{Ipv4Addr}
use Rattle.std.specs.declared.net.ipv6_addr.Ipv6Addr.{Ipv6Addr}
use Rattle.std.specs.Net.Addr.{HasPrefix, IsLoopbackV4, IsLoopbackV6, IsPrivate, IsWithinAt, MatchIp, ipv4_octets, ipv6_segments}

-- 127.0.0.0/8, 169.254.0.0/16, and 10.0.0.0/8, 172.16.0.0/12 and 192.168.0.0/16
abbrev pub IsNearV4 : Ipv4Addr → Type 0
IsNearV4 ip = IsLoopbackV4 ip ⊎ (HasPrefix (ipv4_octets ip) (169 ∷ 254 ∷ []) ⊎ IsPrivate (ipv4_octets ip))

-- ::1, fe80::/10 and fc00::/7
abbrev pub IsNearV6 : Ipv6Addr → Type 0
IsNearV6 ip = IsLoopbackV6 ip ⊎ (IsWithinAt (ipv6_segments ip) 0 0xfe80 0xfebf ⊎ IsWithinAt (ipv6_segments ip) 0 0xfc00 0xfdff)

-- an address of the loopback, link-local or private ranges
abbrev pub IsNear : IpAddr → Type 0
IsNear ip = MatchIp ip IsNearV4 IsNearV6
