mod FileDisks
